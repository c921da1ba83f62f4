use Rattle.std.proofs.Common.{◌≡◌, ℕ, ◌+◌, ◌%◌, ◌^◌, ◌<◌, ◌≤◌, get_or}
use Rattle.typst_node.proofs.ends.raise.Given as goal

abbrev pub invariant-loop-i : goal.invariant-loop-i
invariant-loop-i l = record {
  raised : (k : ℕ) → l.from ≤ k → k < l.i → get_or l.numbers k 0 ≡ (get_or l.initial.numbers k 0 + l.by) % 2 ^ 32;
  before : (k : ℕ) → k < l.from → get_or l.numbers k 0 ≡ get_or l.initial.numbers k 0;
  behind : (k : ℕ) → l.i ≤ k → get_or l.numbers k 0 ≡ get_or l.initial.numbers k 0;
}
