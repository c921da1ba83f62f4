use Rattle.std.proofs.Common.{◌≡◌, ◌∙◌, ◌+◌, ap, arith, length}
use Rattle.std.proofs.lemmas.List.{length-set}
use Rattle.typst_node.specs.Count.{count}
use Rattle.typst_session.specs.Reading.{IsInfo}
use Rattle.typst_session.proofs.Listed.{begin_alike, end_alike, count_more, room_for, told_all, told_child, told_count}
use Rattle.typst_session.proofs.listing.+write_subtree.Goals as goal

pub write_subtree-next-requires : goal.write_subtree-next-requires
write_subtree-next-requires t c =
    let it = room_for c.args.node.now c.child_slice-child-items.result.now c.loop-child.child-index c.child-item.result c.child_slice-child-items.ensures.children c.loop-child-test.true c.child-item.is in
    let long : length c.loop-child.out ≡ length c.args.out.now = c.loop-child.auto.out ∙ length-set c.args.out.now c.args.at c.of.result in
    (omega (arith, c.decreases, it.0), omega (arith, it.1, c.loop-child.invariant.0, long, c.requires))

pub loop-child-preserved : goal.loop-child-preserved
loop-child-preserved t c =
    let items = c.child_slice-child-items.result.now in
    let i = c.loop-child.child-index in
    let e = c.write_subtree-next.ensures in
    let inv = c.loop-child.invariant in
    let it = room_for c.args.node.now items i c.child-item.result c.child_slice-child-items.ensures.children c.loop-child-test.true c.child-item.is in
    let more = count_more items i c.child-item.result c.loop-child-test.true in
    let same = ap count c.child-item.is in
    let behind = end_alike (c.loop-child.next + count c.child-item.result) (c.args.at + count c.args.node.now) c.write_subtree-next.new.out c.loop-child.out (omega (arith, it.1, inv.0)) e.behind in (
      omega (arith, e.end, inv.0, more, same),
      begin_alike c.args.at c.loop-child.next c.write_subtree-next.new.out c.loop-child.out (omega (arith, inv.0)) e.before ∙ inv.1,
      told_child IsInfo c.args.node.now items i c.child-item.result c.loop-child.out c.write_subtree-next.new.out c.args.at c.loop-child.next c.loop-child-test.true c.child-item.is inv.0 e.before inv.2 e.told,
      behind ∙ inv.3,
    )

pub returns-clause-end : goal.returns-clause-end
returns-clause-end t c =
    c.loop-child.invariant.0
    ∙ ap (λ n. c.args.at + n) (told_count c.args.node.now c.child_slice-child-items.result.now c.loop-child.child-index c.child_slice-child-items.ensures.children c.loop-child-test.false)

pub returns-clause-told : goal.returns-clause-told
returns-clause-told t c =
    told_all IsInfo c.args.node.now c.child_slice-child-items.result.now c.loop-child.child-index c.loop-child.out c.args.at c.child_slice-child-items.ensures.children c.loop-child-test.false c.loop-child.invariant.2
