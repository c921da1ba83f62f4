use Rattle.std.proofs.Common.{◌≡◌, ◌+◌}
use Rattle.typst_lines.specs.LineStarts.{starts_between}
use Rattle.typst_lines.proofs.lines.starts_of.Given as goal

abbrev pub invariant-loop-at : goal.invariant-loop-at
invariant-loop-at l = l.starts.items ≡ starts_between l.fn.ends l.text 0 (l.at + 1)
