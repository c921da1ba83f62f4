-- Lines and columns.
use Rattle.std.specs.Prelude.{ℕ, ◌||◌, ◌&&◌, nat_le, Bool, false, List, [], ◌∷◌, if◌then◌else◌}
use Rattle.typst_parser.specs.Sums.{capped_sum}
use Rattle.typst_lexer.specs.Characters.{begins, goes_on}
use Rattle.typst_lexer.specs.Classes.{begins_char, is_newline}

-- a printable character of ASCII
abbrev pub is_printable : ℕ → Bool
is_printable b = nat_le 32 b && nat_le b 126

-- the column after a byte: a newline begins a line, and each other character is one more
abbrev pub column_step : ℕ → List ℕ → ℕ
column_step column w = if begins_char is_newline w then 0 else (if begins goes_on w then column else capped_sum column 1)

-- the column after some bytes
abbrev pub column_after : ℕ → List ℕ → ℕ
column_after column [] = column
column_after column (b ∷ bs) = column_after (column_step column (b ∷ bs)) bs

-- one of the characters is a newline
abbrev pub has_newline : List ℕ → Bool
has_newline [] = false
has_newline (b ∷ bs) = begins_char is_newline (b ∷ bs) || has_newline bs
