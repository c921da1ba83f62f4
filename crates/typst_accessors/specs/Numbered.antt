-- Finding what has a number.
use Rattle.std.specs.Prelude.{ℕ, ◌≡◌, Option, MatchOption}

-- what is found has the number; if nothing is found, nothing has it
abbrev pub IsNumbered : {X : Type 0} → (X → ℕ) → ℕ → Option X → Type 0
IsNumbered {X} number_of number found =
    MatchOption found ((x : X) → ¬ (number_of x ≡ number)) (λ x. number_of x ≡ number)
