-- Sums of numbers that have a largest one.
use Rattle.std.specs.Prelude.{ℕ, ◌+◌, min}

-- a sum, or the largest number
abbrev pub capped_sum : ℕ → ℕ → ℕ
capped_sum a b = min (a + b) 0xFFFF_FFFF_FFFF_FFFF
