-- Columns past the text of a line.
use Rattle.std.specs.Prelude.{ℕ, ◌≡◌, ◌+◌, ◌-◌, ◌<◌, ◌≤◌, ◌⊎◌, ◌==◌, nat_lt, List, length, slice_index, slice_range, sum_by, take, if◌then◌else◌}
use Rattle.std.specs.declared.ops.Range.{Range}
use Rattle.typst_lines.specs.Columns.{width, IsPlace}
use Rattle.typst_lines.specs.LineEnds.{newline_before, within_crlf}
use Rattle.typst_lines.specs.TextLines.{lines, line_bytes, bytes_before}
use Rattle.typst_lines.specs.declared.column.ColumnUnit.{ColumnUnit}
use Rattle.typst_lines.specs.declared.ends.LineEnds.{LineEnds}

-- how many bytes a character that ends lines has, by its last byte
abbrev pub end_width : ℕ → ℕ
end_width last = if nat_lt last 0x80 then 1 else (if last == 0x85 then 2 else 3)

-- how many bytes the line end has at the end of a line: two for a carriage return and a line feed, and none without one
unfoldable pub line_end_len : LineEnds → List ℕ → ℕ
line_end_len ends line =
    if newline_before ends line (length line)
    then (if within_crlf line (length line - 1) then 2 else end_width (slice_index line (length line - 1)))
    else 0

-- the bytes of a line before its line end
abbrev pub line_text : LineEnds → List ℕ → ℕ → List ℕ
line_text ends text line =
    take (length (line_bytes ends text line) - line_end_len ends (line_bytes ends text line)) (line_bytes ends text line)

-- the range of a line's bytes before its line end
pub record IsTextOfLine (ends : LineEnds) (text : List ℕ) (line : ℕ) (range : Range ℕ) : Type 0 where
  pub there : line < length (lines ends text)
  pub begin : range.start ≡ bytes_before ends text line
  pub bytes : slice_range text range.start range.end ≡ line_text ends text line
  pub behind : range.end ≡ range.start + length (line_text ends text line)
  pub inside : range.end ≤ length text

-- The line is there. The place has this column, or is at the end of the line's text if the column is there or past it.
pub record IsClampedPlace (ends : LineEnds) (unit : ColumnUnit) (text : List ℕ) (line column at : ℕ) : Type 0 where
  pub there : line < length (lines ends text)
  pub within : column < sum_by (width unit) (line_text ends text line) → IsPlace ends unit text line column at
  pub past : sum_by (width unit) (line_text ends text line) ≤ column → at ≡ bytes_before ends text line + length (line_text ends text line)

-- there is no such line, or the column is within a character of it
abbrev pub HasNoClampedPlace : LineEnds → ColumnUnit → List ℕ → ℕ → ℕ → Type 0
HasNoClampedPlace ends unit text line column =
    (length (lines ends text) ≤ line)
    ⊎ ((column < sum_by (width unit) (line_text ends text line)) × ((at : ℕ) → ¬ (IsPlace ends unit text line column at)))
