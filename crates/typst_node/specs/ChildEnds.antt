-- The ends of the texts of a node's children, and what is kept of them.
use Rattle.std.specs.Prelude.{ℕ, suc, ◌≡◌, ◌+◌, ◌-◌, ◌%◌, ◌^◌, ◌≤◌, List, [], ◌∷◌, ◌++◌, length, take, drop, Option, Some, None}
use Rattle.typst_node.specs.Tree.{Tree}
use Rattle.typst_node.specs.Text.{text, text_of_all}

-- the lower 32 bits of the end of each tree's text, if the first text begins at this offset
abbrev pub ends_from : ℕ → List Tree → List ℕ
ends_from at [] = []
ends_from at (t ∷ ts) = ((at + length (text t)) % 2 ^ 32) ∷ ends_from (at + length (text t)) ts

-- all ends are kept, or there are at most ten and none is kept
abbrev pub AreEnds : Option (List ℕ) → List Tree → Type 0
AreEnds None ts = length ts ≤ 10
AreEnds (Some ends) ts = ends ≡ ends_from 0 ts

-- there is room for `many` ends in place of the ends of the trees in a range; if the number of ends stays, all ends are
-- unchanged
pub record HasPlace (from to many : ℕ) (ends : List ℕ) (ts : List Tree) : Type 0 where
  pub len : length ends + (to - from) ≡ length ts + many
  pub before : take from ends ≡ take from (ends_from 0 ts)
  pub behind : drop (from + many) ends ≡ drop to (ends_from 0 ts)
  pub stay : many ≡ to - from → ends ≡ ends_from 0 ts

-- there is such room, or no end is kept and there will be at most ten trees
abbrev pub HavePlace : (from to many : ℕ) → Option (List ℕ) → List Tree → Type 0
HavePlace from to many None ts = length ts - (to - from) + many ≤ 10
HavePlace from to many (Some ends) ts = HasPlace from to many ends ts

-- the ends before the new trees are right, and the ends after them count the length of the trees that these replaced;
-- if one tree replaced one, its own end counts that length, too
pub record IsStaleList (from to many gone : ℕ) (ends : List ℕ) (ts : List Tree) : Type 0 where
  pub all : length ends ≡ length ts
  pub before : take from ends ≡ take from (ends_from 0 ts)
  pub behind : drop (from + many) ends ≡ ends_from (length (text_of_all (take from ts)) + gone) (drop (from + many) ts)
  pub one : many ≡ 1 → to ≡ suc from → take (suc from) ends ≡ take from (ends_from 0 ts) ++ ((length (text_of_all (take from ts)) + gone) % 2 ^ 32) ∷ []

-- the ends that are kept are stale in this way, or there are at most ten trees and no end is kept
abbrev pub AreStale : (from to many gone : ℕ) → Option (List ℕ) → List Tree → Type 0
AreStale from to many gone None ts = length ts ≤ 10
AreStale from to many gone (Some ends) ts = IsStaleList from to many gone ends ts
