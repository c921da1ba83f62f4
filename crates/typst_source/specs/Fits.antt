-- Which ranges of a text can be edited.
use Rattle.std.specs.Prelude.{ℕ, ◌≤◌, List}
use Rattle.std.specs.Str.{IsCharBoundary}
use Rattle.std.specs.declared.ops.Range.{Range}

-- the range lies within the text, and both of its ends are between characters
pub record FitsText (source : List ℕ) (range : Range ℕ) : Type 0 where
  pub ordered : range.start ≤ range.end
  pub start : IsCharBoundary source range.start
  pub end : IsCharBoundary source range.end
