use Rattle.std.proofs.Common.{◌++◌}
use Rattle.typst_lines.specs.LineTable.{AreLines}
use Rattle.typst_bench.proofs.lines.follow_often.Given as goal

abbrev pub invariant-loop : goal.invariant-loop
invariant-loop l = AreLines l.lines (l.front ++ l.back)
