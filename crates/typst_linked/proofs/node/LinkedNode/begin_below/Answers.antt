use Rattle.std.proofs.Common.{◌∙◌, length, take, ap, arith}
use Rattle.typst_node.specs.Tree.{Tree, trees}
use Rattle.typst_node.specs.Text.{text_of_all}
use Rattle.typst_linked.specs.Place.{last_step}
use Rattle.typst_linked.proofs.Child.{at_place, begin_in}
use Rattle.typst_linked.proofs.Places.{same_node}
use Rattle.typst_linked.proofs.node.LinkedNode.begin_below.Goals as goal

pub overflow_sub-result : goal.overflow_sub-result
overflow_sub-result c =
    let above = at_place _ _ _ _ c.parent.view_is c.parent.invariant.0 in
    let own = at_place _ _ _ _ (c.self.view_is ∙ c.requires) c.self.invariant.0 in
    omega (arith, begin_in c.args.parent.now _ _ _ _ (last_step c.args.self.now.path) above own)

pub returns : goal.returns
returns c = λ t ht.
    let i = last_step c.args.self.now.path in
    let above = at_place _ _ _ _ c.parent.view_is c.parent.invariant.0 in
    let own = at_place _ _ _ _ (c.self.view_is ∙ c.requires) c.self.invariant.0 in
    let same = same_node t c.parent.inside.node.now c.args.parent.now ht above.node_is in
    omega (arith, begin_in c.args.parent.now _ _ _ _ i above own, ap (λ (u : Tree). length (text_of_all (take i (trees u.children)))) same)
