-- The index of a root.
use Rattle.std.specs.Prelude.{ℕ, List, [], ◌∷◌, Option, Some, None, ◌≡◌, ◌≢◌, ◌⊎◌}

-- the bytes of `∛`, U+221B
abbrev pub cube_root_sign : List ℕ
cube_root_sign = 0xE2 ∷ 0x88 ∷ 0x9B ∷ []

-- the bytes of `∜`, U+221C
abbrev pub fourth_root_sign : List ℕ
fourth_root_sign = 0xE2 ∷ 0x88 ∷ 0x9C ∷ []

-- the index of a root by its sign: 3 for `∛`, 4 for `∜`, and none for any other sign
abbrev pub IsRootIndex : List ℕ → Option ℕ → Type 0
IsRootIndex sign (Some index) = ((sign ≡ cube_root_sign) × (index ≡ 3)) ⊎ ((sign ≡ fourth_root_sign) × (index ≡ 4))
IsRootIndex sign None = (sign ≢ cube_root_sign) × (sign ≢ fourth_root_sign)
