use Rattle.std.proofs.Common.{◌≡◌, map, take}
use Rattle.typst_node.specs.View.{warning_text}
use Rattle.typst_node.proofs.node.copy.copy_warnings.Given as goal

abbrev pub invariant-loop-warning : goal.invariant-loop-warning
invariant-loop-warning l = map warning_text l.copies.items ≡ map warning_text (take l.warning-index l.warnings)
