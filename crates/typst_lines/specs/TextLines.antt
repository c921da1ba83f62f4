-- The lines of a text, as lists of bytes.
use Rattle.std.specs.Prelude.{ℕ, ◌≡◌, ◌+◌, ◌<◌, ◌≤◌, false, nat_lt, slice_index_or, List, [], ◌∷◌, ◌++◌, length, take, drop, ⊤, if◌then◌else◌}
use Rattle.std.specs.List.{concat}
use Rattle.typst_lines.specs.LineEnds.{line_ends_between}
use Rattle.typst_lines.specs.declared.ends.LineEnds.{LineEnds}

-- The lines of a text, given the part of its first line that has been read and the rest of the text. No line ends
-- within that part.
abbrev pub lines_from : LineEnds → List ℕ → List ℕ → List (List ℕ)
lines_from ends line [] = line ∷ []
lines_from ends line (byte ∷ rest) =
    if line_ends_between ends (line ++ byte ∷ []) rest then (line ++ byte ∷ []) ∷ lines_from ends [] rest
    else lines_from ends (line ++ byte ∷ []) rest

-- The lines of a text, each with its line end. The last line has no line end, and may be empty.
unfoldable pub lines : LineEnds → List ℕ → List (List ℕ)
lines ends text = lines_from ends [] text

-- the bytes of a line, counted from 0
abbrev pub line_bytes : LineEnds → List ℕ → ℕ → List ℕ
line_bytes ends text line = slice_index_or (lines ends text) line []

-- how many bytes the lines before a line have
abbrev pub bytes_before : LineEnds → List ℕ → ℕ → ℕ
bytes_before ends text line = length (concat (take line (lines ends text)))

-- a place is in a line: not before the line begins, and before the next line if there is one
pub record IsInLine (ends : LineEnds) (text : List ℕ) (at line : ℕ) : Type 0 where
  pub there : line < length (lines ends text)
  pub behind : bytes_before ends text line ≤ at
  pub before : line + 1 < length (lines ends text) → at < bytes_before ends text (line + 1)

-- no line ends within these bytes
abbrev pub HasNoEndWithin : LineEnds → List ℕ → Type 0
HasNoEndWithin ends line = (at : ℕ) → 0 < at → at < length line → line_ends_between ends (take at line) (drop at line) ≡ false

-- These are lines in a row. No line ends within one of them. A line ends with a line end exactly if another line
-- follows.
abbrev pub AreLinesInRow : LineEnds → List (List ℕ) → Type 0
AreLinesInRow ends [] = ⊤
AreLinesInRow ends (line ∷ more) =
    HasNoEndWithin ends line × (line_ends_between ends line (concat more) ≡ nat_lt 0 (length more)) × AreLinesInRow ends more
