use Rattle.std.proofs.Common.{◌≡◌, ℕ, ◌<◌, ◌≤◌, length, get_or}
use Rattle.typst_node.proofs.ends.Ends.clear.Given as goal

abbrev pub invariant-loop-place : goal.invariant-loop-place
invariant-loop-place l = record {
  many : length l.self ≡ length l.initial.self;
  kept : (k : ℕ) → k < l.from → get_or l.self k 0 ≡ get_or l.initial.self k 0;
  cleared : (k : ℕ) → l.from ≤ k → k < l.place → get_or l.self k 0 ≡ 0;
}
