-- Values of hexadecimal digits, as a private function reads them.
use Rattle.std.specs.Prelude.{ℕ, ◌+◌, ◌*◌, min, cond, List, [], ◌∷◌}
use Rattle.std.specs.Char.{is_digit, digit_value}

-- The value of the digits at the front, read after digits of the value n. At each digit it is cut at 0x11_0000, which
-- is past all characters.
abbrev pub capped_value : ℕ → List ℕ → ℕ
capped_value n [] = n
capped_value n (c ∷ cs) = cond (is_digit c 16) (capped_value (min (n * 16 + digit_value c) 0x11_0000) cs) n
