use Rattle.std.proofs.Common.{◌≡◌, ℕ, ◌+◌, ◌-◌, ◌/◌, ◌%◌, ◌^◌, ◌<◌, ◌≤◌, ◌∷◌, get_or}
use Rattle.typst_node.specs.Ends.{starts_in}
use Rattle.typst_node.proofs.ends.recount.Given as goal

abbrev pub invariant-loop-place : goal.invariant-loop-place
invariant-loop-place l = record {
  begun : l.to ≤ l.place;
  inside : l.place ≤ l.count;
  before : (k : ℕ) → k < l.to → get_or l.within k 0 ≡ get_or l.initial.within k 0;
  counted : (k : ℕ) → l.to ≤ k → k < l.place → (get_or (0 ∷ starts_in l.starts) (k / 256) 0 + get_or l.within k 0) % 2 ^ 32
      ≡ (get_or (0 ∷ starts_in l.starts) ((k - l.to + l.from) / 256) 0 + get_or l.initial.within k 0) % 2 ^ 32;
  left : (k : ℕ) → l.place ≤ k → get_or l.within k 0 ≡ get_or l.initial.within k 0;
}

abbrev pub decreases-loop-place : goal.decreases-loop-place
decreases-loop-place l = l.count - l.place
