-- The columns of places in a text.
use Rattle.std.specs.Prelude.{ℕ, ◌≡◌, Bool, ◌&&◌, nat_le, nat_lt, List, sum_by, take, slice_range, if◌then◌else◌}
use Rattle.std.specs.Str.{IsCharBoundary}
use Rattle.typst_lines.specs.LineStarts.{line_of, line_start}
use Rattle.typst_lines.specs.declared.column.ColumnUnit.{ColumnUnit}
use Rattle.typst_lines.specs.declared.column.ColumnUnit.TheVariants.{Byte, Character, Utf16}
use Rattle.typst_lines.specs.declared.ends.LineEnds.{LineEnds}

-- the byte continues a character that began before it
abbrev pub goes_on : ℕ → Bool
goes_on b = nat_le 0x80 b && nat_lt b 0xC0

-- How far a column moves over a byte. A character counts at its first byte, and twice if it has two units.
abbrev pub width : ColumnUnit → ℕ → ℕ
width Byte b = 1
width Character b = if goes_on b then 0 else 1
width Utf16 b = if goes_on b then 0 else (if nat_le 0xF0 b then 2 else 1)

-- how much of a text is before a place, in a unit
abbrev pub offset_in : ColumnUnit → List ℕ → ℕ → ℕ
offset_in unit text at = sum_by (width unit) (take at text)

-- the bytes of a place's line that are before the place
abbrev pub line_before : LineEnds → List ℕ → ℕ → List ℕ
line_before ends text at = slice_range text (line_start ends text (line_of ends text at)) at

-- the column of a place: how far a column moves over the bytes before the place in its line
abbrev pub column_of : LineEnds → ColumnUnit → List ℕ → ℕ → ℕ
column_of ends unit text at = sum_by (width unit) (line_before ends text at)

-- A character begins at the place, or the text ends there. The place has this line and column.
pub record IsPlace (ends : LineEnds) (unit : ColumnUnit) (text : List ℕ) (line column at : ℕ) : Type 0 where
  pub boundary : IsCharBoundary text at
  pub on_line : line_of ends text at ≡ line
  pub at_column : column_of ends unit text at ≡ column
