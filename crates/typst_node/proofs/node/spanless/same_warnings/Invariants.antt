use Rattle.std.proofs.Common.{◌≡◌, map, take}
use Rattle.typst_node.specs.View.{warning_text}
use Rattle.typst_node.proofs.node.spanless.same_warnings.Given as goal

abbrev pub invariant-loop-i : goal.invariant-loop-i
invariant-loop-i l = map warning_text (take l.i l.warnings) ≡ map warning_text (take l.i l.others)
