use Rattle.std.proofs.Common.{◌≡◌, ◌+◌, ◌++◌, take, drop, length}
use Rattle.typst_lines.specs.LineStarts.{starts_between}
use Rattle.typst_lines.specs.Parts.{whole}
use Rattle.typst_lines.proofs.parts.Parts.write_starts.Given as goal

abbrev pub invariant-loop-at : goal.invariant-loop-at
invariant-loop-at l = record {
  counted : l.count ≡ l.first + length (starts_between l.self.ends (whole l.self) l.from l.at);
  written : l.starts ≡ (take l.first l.fn.starts ++ starts_between l.self.ends (whole l.self) l.from l.at) ++ drop l.count l.fn.starts;
}
