use Rattle.std.proofs.Common.{◌≡◌, ◌+◌, List, [], ◌∷◌, ap, subst, ◌∙◌}
use Rattle.std.specs.Prelude.{slice_range}
use Rattle.typst_node.specs.Tree.{Tree}
use Rattle.typst_node.specs.Sums.{AreSums}
use Rattle.typst_node.proofs.Settled.{slice_one, sums_of_one}
use Rattle.typst_node.proofs.node.InnerNode.settle_child.Goals as goal

pub settle-requires-clause-added : goal.settle-requires-clause-added
settle-requires-clause-added c =
    let items = c.args.self.now.children.items in
    let is = c.measures-added.ensures in
    let one : c.index.result.now ∷ [] ≡ slice_range items c.args.index (c.args.index + 1) = ap (λ x. x ∷ []) c.index.ensures ∙ slice_one items c.args.index c.index.result.now c.requires.index in
    subst (λ (ts : List Tree). AreSums c.measures-added.result ts) one (sums_of_one c.measures-added.result c.index.result.now is.len is.descendants is.errors is.warnings)
