use Rattle.std.proofs.Common.{arith, rules, ◌≡◌, ap, get_or}
use Rattle.typst_node.specs.Tree.{Tree}
use Rattle.typst_drawn.proofs.Smaller.{size, child_smaller}
use Rattle.typst_drawn.proofs.words.+push_tree.Goals as goal

pub push_tree-requires : goal.push_tree-requires
push_tree-requires t c =
    let items = c.child_slice-child-items.result.now in
    let fewer = child_smaller c.args.node.now.children c.loop-child.child-index c.child-item.result in
    let same : size c.child-item.result.children ≡ size (get_or items c.loop-child.child-index c.child-item.result).children = ap (λ (t : Tree). size t.children) c.child-item.is in
    let there = rw c.child_slice-child-items.ensures.children at c.loop-child-test.true in
    let same_too = rw c.child_slice-child-items.ensures.children at same in
    (omega (arith, c.decreases, fewer there, same_too), search rules)
