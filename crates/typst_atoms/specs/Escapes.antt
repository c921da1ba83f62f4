-- The character that an escape sequence stands for.
use Rattle.std.specs.Prelude.{ℕ, cond, eqb, List, [], ◌∷◌, codes, drop}
use Rattle.std.specs.List.{starts_with}
use Rattle.std.specs.Str.{chars}
use Rattle.std.specs.Str.Parse.{digits_value}
use Rattle.typst_atoms.specs.CodePoints.{hex_run, char_or_nul, first_or_nul}

-- the text after one leading backslash, which is byte 92
abbrev pub without_backslash : List ℕ → List ℕ
without_backslash bs = drop (cond (starts_with eqb bs (92 ∷ [])) 1 0) bs

-- After the backslash, `u{` and hexadecimal digits name the character of that code, or U+0000 if there is none. Any
-- other text names its first character.
abbrev pub named_char : List ℕ → ℕ
named_char bs =
    cond (starts_with eqb bs (codes "u{"))
    (char_or_nul (digits_value 16 (hex_run (drop 2 bs))))
    (first_or_nul (chars bs))

-- the character that an escape sequence with this text stands for
abbrev pub escaped_char : List ℕ → ℕ
escaped_char bs = named_char (without_backslash bs)
