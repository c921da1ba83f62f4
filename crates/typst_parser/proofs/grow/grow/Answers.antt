use Rattle.std.proofs.Common.{rules, subst, sym}
use Rattle.std.specs.Str.{IsUtf8}
use Rattle.std.proofs.lemmas.Str.{IsUtf8-drop}
use Rattle.typst_parser.proofs.Growing.{cut_next, grow_fits, grow_next, piece_boundary, place_next}
use Rattle.typst_parser.proofs.grow.grow.Goals as goal

pub returns-in_err-add_tree-clause-overflow : goal.returns-in_err-add_tree-clause-overflow
returns-in_err-add_tree-clause-overflow c is fits =
    c.in_err-add_tree.ensures.overflow (search (rules, is))
    (grow_fits c.args.events.now c.loop-event.event-index _ c.args.text.now c.loop-event.rest.now c.split_at.result.0.now c.split_at.result.1.now c.len.result c.loop-event.trees.items _ c.loop-event-test.true
    c.len.ensures c.split_at.ensures.front c.split_at.ensures.back c.loop-event.invariant.so_far fits)

pub loop-event-preserved : goal.loop-event-preserved
loop-event-preserved c =
    let all = c.args.events.now in
    let i = c.loop-event.event-index in
    let text = c.args.text.now in
    let rest = c.loop-event.rest.now in
    let piece = c.split_at.result.0.now in
    let more = c.split_at.result.1.now in
    let len = c.len.result in
    let ts = c.loop-event.trees.items in
    record {
      utf8 = subst IsUtf8 (sym c.split_at.ensures.back) (IsUtf8-drop rest len c.loop-event.invariant.utf8
          (piece_boundary all i _ text rest piece more len ts _ c.loop-event-test.true c.len.ensures c.split_at.ensures.front c.split_at.ensures.back c.loop-event.invariant.so_far
          c.loop-event.invariant.place c.loop-event.invariant.cut));
      place = place_next all i _ text rest piece more len ts _ c.loop-event-test.true c.len.ensures c.split_at.ensures.front c.split_at.ensures.back c.loop-event.invariant.so_far
          c.loop-event.invariant.place c.loop-event.invariant.cut;
      cut = cut_next all i _ text rest piece more len ts _ c.loop-event-test.true c.len.ensures c.split_at.ensures.front c.split_at.ensures.back c.loop-event.invariant.so_far
          c.loop-event.invariant.place c.loop-event.invariant.cut;
      so_far = grow_next all i _ text rest piece more len ts _ c.loop-event-test.true c.len.ensures c.split_at.ensures.front c.split_at.ensures.back c.loop-event.invariant.so_far
          c.add_tree.new.trees.items c.in_ok-add_tree.ensures.trees;
    }
