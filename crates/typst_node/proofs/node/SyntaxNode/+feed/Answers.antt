use Rattle.std.proofs.Common.{◌≡◌, ◌∙◌, arith, ap, sym, get_or, length, refl}
use Rattle.typst_node.specs.Count.{count}
use Rattle.typst_node.specs.Tree.{forest}
use Rattle.typst_node.specs.Hashed.{label_input}
use Rattle.typst_node.proofs.Trees.{forest-trees, count_at, count_of_trees}
use Rattle.typst_node.proofs.Fed.{trees_step, trees_all}
use Rattle.typst_node.proofs.node.SyntaxNode.+feed.Goals as goal

pub feed-requires : goal.feed-requires
feed-requires g t c =
    let items = c.child_slice-children.result.now in
    let few = count_at items c.loop-child.child-index c.child-item.result (omega arith) in
    let sum = count_of_trees c.args.self.now.children in
    let same : count c.child-item.result ≡ count (get_or items c.loop-child.child-index c.child-item.result) = ap count c.child-item.is in
    let fewer = rw c.child_slice-children.ensures.children at few in
    let same_too = rw c.child_slice-children.ensures.children at same in
    λ κs h. (omega (arith, c.decreases), h)

pub loop-child-preserved : goal.loop-child-preserved
loop-child-preserved g t c =
    trees_step g.H.Hasher.write c.child_slice-children.result.now c.loop-child.child-index c.child-item.result c.loop-child.state c.feed.new.state (omega arith) c.child-item.is c.feed.ensures ∙ c.loop-child.invariant

pub returns : goal.returns
returns g t c =
    let items = c.child_slice-children.result.now in
    let kids = c.child_slice-children.ensures.children in
    trees_all g.H.Hasher.write items c.args.self.now.children (label_input c.args.self.now.label) (length items) c.loop-child.child-index c.args.state.now c.feed_label.new.state c.write_usize.new.self c.loop-child.state
    (sym (forest-trees c.args.self.now.children) ∙ ap forest (sym kids)) kids refl (omega arith) c.feed_label.ensures c.write_usize.ensures c.loop-child.invariant
