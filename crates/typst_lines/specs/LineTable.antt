-- What is stored about the lines of a text.
use Rattle.std.specs.Prelude.{ℕ, ◌≡◌, List, length}
use Rattle.typst_lines.specs.LineStarts.{line_starts}
use Rattle.typst_lines.specs.declared.ends.LineEnds.{LineEnds}

-- where lines begin and how long their text is, both in bytes, how many lines the allocated memory can hold, and what ends
-- lines
pub record LineTable : Type 0 where
  pub starts : List ℕ
  pub len : ℕ
  pub room : ℕ
  pub ends : LineEnds

-- the table holds the lines of a text
pub record AreLines (lines : LineTable) (text : List ℕ) : Type 0 where
  pub starts : lines.starts ≡ line_starts lines.ends text
  pub len : lines.len ≡ length text

-- the tables hold the same lines, of texts of the same length, by the same line ends
pub record AreSameLines (old new : LineTable) : Type 0 where
  pub starts : new.starts ≡ old.starts
  pub len : new.len ≡ old.len
  pub ends : new.ends ≡ old.ends
