-- Values of digits, as a private function reads them.
use Rattle.std.specs.Prelude.{ℕ, ◌+◌, ◌*◌, ◌^◌, min, cond, List, [], ◌∷◌}
use Rattle.std.specs.Char.{is_digit, digit_value}

-- The value of the digits at the front, read after digits of the value n. At each digit it is cut at the first number
-- that is too large.
abbrev pub capped_digits : ℕ → ℕ → List ℕ → ℕ
capped_digits base n [] = n
capped_digits base n (c ∷ cs) = cond (is_digit c base) (capped_digits base (min (n * base + digit_value c) (2 ^ 63)) cs) n
