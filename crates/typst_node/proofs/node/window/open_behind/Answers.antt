use Rattle.std.proofs.Common.{◌<◌, length, ap, sym, ◌∙◌, arith}
use Rattle.std.proofs.lemmas.Grind.{common_steps}
use Rattle.typst_node.specs.Tree.{Tree}
use Rattle.typst_node.specs.Labels.{bound}
use Rattle.typst_node.proofs.Opens.{open_from_last}
use Rattle.typst_node.proofs.node.window.open_behind.Goals as goal

pub returns-else-is_empty : goal.returns-else-is_empty
returns-else-is_empty c =
    let some : 0 < length c.args.nodes.now = grind (arith, common_steps) in
    c.upper.ensures ∙ (ap (λ (t : Tree). bound t.label) c.index-nodes-nodes.is ∙ sym (open_from_last c.args.first c.args.nodes.now c.index-nodes-nodes.result some))
