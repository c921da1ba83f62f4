use Rattle.std.proofs.Common.{◌≡◌, drop}
use Rattle.std.specs.List.{list_any}
use Rattle.typst_parser.specs.Warnings.{is_visible}
use Rattle.typst_parser.proofs.warning.has_visible.Given as goal

abbrev pub invariant-loop-node : goal.invariant-loop-node
invariant-loop-node l = list_any is_visible (drop l.node-index l.nodes) ≡ list_any is_visible l.nodes
