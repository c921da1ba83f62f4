-- Places in a text that are counted from both of its ends.
use Rattle.std.specs.Prelude.{ℕ, ◌-◌, List, ◌++◌, map, take, drop}

-- The places that these numbers give. The first `seam` numbers count from the beginning of the text, and the others
-- count back from its end.
abbrev pub seamed : ℕ → ℕ → List ℕ → List ℕ
seamed seam end kept = take seam kept ++ map (λ left. end - left) (drop seam kept)
