-- Characters by their codes.
use Rattle.std.specs.Prelude.{ℕ, Bool, cond, List, ◌||◌, ◌&&◌, nat_lt}
use Rattle.std.specs.Char.{is_digit}
use Rattle.std.specs.List.{slice_get, take_while}
use Rattle.std.specs.Option.{unwrap_or}

-- the longest run of hexadecimal digits at the beginning
abbrev pub hex_run : List ℕ → List ℕ
hex_run bs = take_while (λ b. is_digit b 16) bs

-- the number is the code of a character: a Unicode scalar value
abbrev pub is_code : ℕ → Bool
is_code n = nat_lt n 0xD800 || (nat_lt 0xDFFF n && nat_lt n 0x11_0000)

-- the character of that code, or U+0000 if there is none
abbrev pub char_or_nul : ℕ → ℕ
char_or_nul n = cond (is_code n) n 0

-- the first character, or U+0000 if there is none
abbrev pub first_or_nul : List ℕ → ℕ
first_or_nul cs = unwrap_or (slice_get cs 0) 0
