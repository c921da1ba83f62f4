-- There are as many ends as are kept. This lemma stands here since a law of a trait cites it.
use Rattle.std.specs.Prelude.{ℕ, suc, ◌≡◌, List, [], ◌∷◌, length}
use Rattle.std.proofs.Common.{refl, ap}
use Rattle.typst_node.specs.Ends.{ends_seen}

-- as many ends are seen as are kept
pub length-ends_seen : (starts : List ℕ) (place : ℕ) (es : List ℕ) → length (ends_seen starts place es) ≡ length es
length-ends_seen starts place [] = refl
length-ends_seen starts place (e ∷ es) = ap suc (length-ends_seen starts (suc place) es)
