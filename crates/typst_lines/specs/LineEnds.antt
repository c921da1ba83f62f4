-- What ends a line. A text is the list of its bytes.
use Rattle.std.specs.Prelude.{ℕ, ◌-◌, Bool, true, false, not, ◌&&◌, ◌||◌, ◌==◌, nat_le, List, ◌++◌, length, slice_index}
use Rattle.typst_lines.specs.declared.ends.LineEnds.{LineEnds}
use Rattle.typst_lines.specs.declared.ends.LineEnds.TheVariants.{Unicode, Editor}

-- The byte ends lines. It is a line feed or a carriage return, and by Unicode also a vertical tab or a form feed.
abbrev pub ends_line : LineEnds → ℕ → Bool
ends_line Unicode b = nat_le 10 b && nat_le b 13
ends_line Editor b = b == 10 || b == 13

-- a NEL, a line separator and a paragraph separator end lines by Unicode
abbrev pub has_wide : LineEnds → Bool
has_wide Unicode = true
has_wide Editor = false

-- the last character before a place is a NEL, a line separator or a paragraph separator
abbrev pub wide_before : List ℕ → ℕ → Bool
wide_before text at =
    (nat_le 2 at && (slice_index text (at - 2) == 0xC2 && slice_index text (at - 1) == 0x85))
    || (nat_le 3 at && (slice_index text (at - 3) == 0xE2 && (slice_index text (at - 2) == 0x80
    && (slice_index text (at - 1) == 0xA8 || slice_index text (at - 1) == 0xA9))))

-- the last character before a place ends lines
abbrev pub newline_before : LineEnds → List ℕ → ℕ → Bool
newline_before ends text at =
    (nat_le 1 at && ends_line ends (slice_index text (at - 1))) || (wide_before text at && has_wide ends)

-- the place is between a carriage return and a line feed, which end a line together
abbrev pub within_crlf : List ℕ → ℕ → Bool
within_crlf text at = nat_le 1 at && (slice_index text (at - 1) == 13 && slice_index text at == 10)

-- A line ends between two parts of a text. The last character of the first part ends lines, and it isn't a carriage
-- return before a line feed.
unfoldable pub line_ends_between : LineEnds → List ℕ → List ℕ → Bool
line_ends_between ends before behind =
    newline_before ends before (length before) && not (within_crlf (before ++ behind) (length before))
