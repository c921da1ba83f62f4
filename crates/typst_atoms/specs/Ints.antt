-- The value of an integer.
use Rattle.std.specs.Prelude.{ℕ, ℤ, pos, FitsSigned, cond, eqb, List, codes, drop, ◌≡◌, ◌⊎◌}
use Rattle.std.specs.Int.{w64}
use Rattle.std.specs.List.{starts_with}
use Rattle.std.specs.Str.Parse.{IsNumeral, signed_digits_value, without_leading_sign}

-- the base of a text: 16, 8 or 2 if it begins with `0x`, `0o` or `0b`, else 10
abbrev pub base_of : List ℕ → ℕ
base_of bs =
    cond (starts_with eqb bs (codes "0x")) 16
    (cond (starts_with eqb bs (codes "0o")) 8 (cond (starts_with eqb bs (codes "0b")) 2 10))

-- the digits of a text: the part after such a beginning, or in base 10 the whole text
abbrev pub digits_of : List ℕ → List ℕ
digits_of bs = cond (eqb (base_of bs) 10) bs (drop 2 bs)

-- an optional sign and at least one digit, whose value an `i64` holds
abbrev pub IsSignedNumeral : ℕ → List ℕ → Type 0
IsSignedNumeral base ds = IsNumeral base (without_leading_sign ds) × FitsSigned w64 (signed_digits_value base ds)

-- the value of such a text; the value of any other text is 0
abbrev pub IsValueOf : ℕ → List ℕ → ℤ → Type 0
IsValueOf base ds value =
    (IsSignedNumeral base ds × (value ≡ signed_digits_value base ds))
    ⊎ (¬ (IsSignedNumeral base ds) × (value ≡ pos 0))

-- the value of an integer with this text
abbrev pub IsIntReading : List ℕ → ℤ → Type 0
IsIntReading bs value = IsValueOf (base_of bs) (digits_of bs) value
