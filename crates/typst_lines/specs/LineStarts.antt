-- Where the lines of a text begin. A text is the list of its bytes.
use Rattle.std.specs.Prelude.{ℕ, ◌+◌, ◌-◌, Bool, not, ◌&&◌, ◌||◌, ◌==◌, List, length, filter, slice_index, unwrap_or}
use Rattle.std.specs.List.{range_with_len, slice_get}
use Rattle.std.specs.declared.ops.Range.{Range}
use Rattle.typst_lines.specs.LineEnds.{newline_before, within_crlf}
use Rattle.typst_lines.specs.declared.ends.LineEnds.{LineEnds}

-- a line begins at the beginning of the text and after each line end
unfoldable pub begins_line : LineEnds → List ℕ → ℕ → Bool
begins_line ends text at = (at == 0) || (newline_before ends text at && not (within_crlf text at))

-- the places where lines begin, from one place up to another
abbrev pub starts_between : LineEnds → List ℕ → ℕ → ℕ → List ℕ
starts_between ends text from to = filter (begins_line ends text) (range_with_len from (to - from))

-- The places where the lines of a text begin, in order. A line may begin at the end of the text.
abbrev pub line_starts : LineEnds → List ℕ → List ℕ
line_starts ends text = starts_between ends text 0 (length text + 1)

-- the line of a place, counted from 0: the last line that begins at or before the place
abbrev pub line_of : LineEnds → List ℕ → ℕ → ℕ
line_of ends text at = length (starts_between ends text 0 (at + 1)) - 1

-- where a line begins
abbrev pub line_start : LineEnds → List ℕ → ℕ → ℕ
line_start ends text line = slice_index (line_starts ends text) line

-- the range of a line: from its beginning up to the beginning of the next line, or to the end of the text
abbrev pub line_range : LineEnds → List ℕ → ℕ → Range ℕ
line_range ends text line =
    record { start = line_start ends text line; end = unwrap_or (slice_get (line_starts ends text) (line + 1)) (length text) }
