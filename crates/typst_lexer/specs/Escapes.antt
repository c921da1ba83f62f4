-- The digits of an escape.
use Rattle.std.specs.Prelude.{ℕ, List, drop}
use Rattle.std.specs.Char.{is_digit}
use Rattle.std.specs.List.{take_while}

-- the hexadecimal digits of `\u{..}`
abbrev pub escape_digits : List ℕ → List ℕ
escape_digits w = take_while (λ b. is_digit b 16) (drop 3 w)
