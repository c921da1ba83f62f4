-- Lists with a change, and their last element.
use Rattle.std.specs.Prelude.{ℕ, zero, suc, List, [], ◌∷◌}

-- the list with a change at a place
abbrev pub changed_at : {X : Type 0} → (X → X) → ℕ → List X → List X
changed_at f i [] = []
changed_at f zero (x ∷ xs) = f x ∷ xs
changed_at f (suc i) (x ∷ xs) = x ∷ changed_at f i xs
