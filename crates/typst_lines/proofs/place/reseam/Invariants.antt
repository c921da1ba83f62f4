use Rattle.std.proofs.Common.{◌≡◌, ℕ, ◌-◌, ◌<◌, ◌≤◌, get_or, min}
use Rattle.typst_lines.proofs.place.reseam.Given as goal

abbrev pub invariant-loop-k : goal.invariant-loop-k
invariant-loop-k l = record {
  before : (j : ℕ) → j < min l.seam l.at → get_or l.kept j 0 ≡ get_or l.initial.kept j 0;
  between : (j : ℕ) → min l.seam l.at ≤ j → j < l.k → get_or l.kept j 0 ≡ l.end - get_or l.initial.kept j 0;
  behind : (j : ℕ) → l.k ≤ j → get_or l.kept j 0 ≡ get_or l.initial.kept j 0;
}
