use Rattle.std.proofs.Common.{◌≡◌, ◌-◌, ◌++◌, map, drop, length}
use Rattle.typst_node.specs.Diagnostics.{warning_report}
use Rattle.typst_node.specs.Reported.{report}
use Rattle.typst_node.specs.View.{shown_warnings}
use Rattle.typst_node.proofs.node.diagnostics.push_warnings.Given as goal

abbrev pub invariant-loop-done : goal.invariant-loop-done
invariant-loop-done l =
    map report l.out.items ≡ map report l.initial.out.items ++ map (warning_report l.span) (shown_warnings (drop (length l.warnings - l.done) l.warnings))
