-- The number of binary digits of a number.
use Rattle.std.specs.Prelude.{ℕ, length}
use Rattle.std.specs.Int.Digits.{digits_of}

-- the number of binary digits of a number; 0 has none
abbrev pub binary_digits : ℕ → ℕ
binary_digits n = length (digits_of 2 n)
