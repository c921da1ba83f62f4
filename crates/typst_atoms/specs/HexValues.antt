-- Values of hexadecimal digits, as private functions read them.
use Rattle.std.specs.Prelude.{ℕ, ◌+◌, ◌*◌, min, cond, List, [], ◌∷◌}
use Rattle.std.specs.Char.{is_digit, digit_value}

-- the value of the digits at the beginning, read after the digits of n; it is cut at 0x11_0000, past all characters, at
-- each digit
abbrev pub capped_value : ℕ → List ℕ → ℕ
capped_value n [] = n
capped_value n (c ∷ cs) = cond (is_digit c 16) (capped_value (min (n * 16 + digit_value c) 0x11_0000) cs) n
