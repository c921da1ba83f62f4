-- Lines and columns of the document's text.
use Rattle.std.specs.Prelude.{ℕ, ◌≡◌, ◌≢◌, ◌<◌, ◌≤◌, List, length, slice_range, Result, Ok, Err}
use Rattle.std.specs.Str.{IsCharBoundary}
use Rattle.std.specs.declared.ops.Range.{Range as Interval}
use Rattle.typst_lines.specs.Clamped.{IsClampedPlace, HasNoClampedPlace}
use Rattle.typst_lines.specs.Columns.{IsPlace, offset_in}
use Rattle.typst_lines.specs.TextLines.{lines, bytes_before, line_bytes}
use Rattle.typst_lines.specs.declared.column.ColumnUnit.{ColumnUnit}
use Rattle.typst_lines.specs.declared.ends.LineEnds.{LineEnds}
use Rattle.typst_node.specs.Text.{text}
use Rattle.typst_source.specs.Fits.{FitsText}
use Rattle.typst_session.specs.Documents.{HoldsNoDocument}
use Rattle.typst_session.specs.LinedText.{LinedText}
use Rattle.typst_session.specs.Texts.{Output, IsWritten, IsTooShort}
use Rattle.typst_session.specs.declared.places.LineColumn.{LineColumn}
use Rattle.typst_session.specs.declared.session.Session.{Session}
use Rattle.typst_session.specs.declared.session.Held.TheVariants as held
use Rattle.typst_session.specs.declared.refusal.Refusal.{Refusal}
use Rattle.typst_session.specs.declared.refusal.Refusal.TheVariants.{Buffer, NoDocument, NoPlace, Range}

-- a fact of the document's text
abbrev pub OfText : (List ℕ → Type 0) → Session → Type 0
OfText fact s = (document : LinedText) × (s.held ≡ held.Document document) × fact (text document.tree)

-- a fact of the document's text and what ends its lines
abbrev pub OfLines : (LineEnds → List ℕ → Type 0) → Session → Type 0
OfLines fact s = (document : LinedText) × (s.held ≡ held.Document document) × fact document.ends (text document.tree)

-- how many lines the document's text has, or that there is no document
abbrev pub CountsLines : Session → Result ℕ Refusal → Type 0
CountsLines s (Ok count) = OfLines (λ ends source. count ≡ length (lines ends source)) s
CountsLines s (Err NoDocument) = HoldsNoDocument s
CountsLines s (Err _) = ⊥

-- the line and the column of a byte of the document's text, or why there are none
abbrev pub PlacesByte : ColumnUnit → ℕ → Session → Result LineColumn Refusal → Type 0
PlacesByte unit byte s (Ok place) = OfLines (λ ends source. IsPlace ends unit source place.line place.column byte) s
PlacesByte unit byte s (Err NoDocument) = HoldsNoDocument s
PlacesByte unit byte s (Err NoPlace) = OfText (λ source. ¬ (IsCharBoundary source byte)) s
PlacesByte unit byte s (Err _) = ⊥

-- the range of bytes that a line has, with its line end
pub record IsRangeOfLine (ends : LineEnds) (source : List ℕ) (line : ℕ) (range : Interval ℕ) : Type 0 where
  pub there : line < length (lines ends source)
  pub begin : range.start ≡ bytes_before ends source line
  pub bytes : slice_range source range.start range.end ≡ line_bytes ends source line

-- the bytes of a line of the document's text, or why there are none
abbrev pub FindsLine : ℕ → Session → Result (Interval ℕ) Refusal → Type 0
FindsLine line s (Ok range) = OfLines (λ ends source. IsRangeOfLine ends source line range) s
FindsLine line s (Err NoDocument) = HoldsNoDocument s
FindsLine line s (Err NoPlace) = OfLines (λ ends source. length (lines ends source) ≤ line) s
FindsLine line s (Err _) = ⊥

-- a part of a text is written
pub record IsPartWritten (range : Interval ℕ) (old new : Output ℕ) (source : List ℕ) : Type 0 where
  pub fits : FitsText source range
  pub written : IsWritten (slice_range source range.start range.end) old.items new.items new.len

-- the buffer is too short for a part of a text
pub record IsPartTooLong (range : Interval ℕ) (old new : Output ℕ) (source : List ℕ) : Type 0 where
  pub fits : FitsText source range
  pub too_short : IsTooShort (slice_range source range.start range.end) old.items new.items new.len

-- the bytes of a range of the document's text are written into a buffer, or why not
abbrev pub WritesPart : Interval ℕ → Session → Output ℕ → Output ℕ → Result (Unit {0}) Refusal → Type 0
WritesPart range s old new (Ok done) = OfText (IsPartWritten range old new) s
WritesPart range s old new (Err Buffer) = OfText (IsPartTooLong range old new) s
WritesPart range s old new (Err NoDocument) = HoldsNoDocument s × (new ≡ old)
WritesPart range s old new (Err Range) = OfText (λ source. ¬ (FitsText source range)) s × (new ≡ old)
WritesPart range s old new (Err _) = ⊥

-- the byte of the document's text at a line and a column, or why there is none
abbrev pub FindsByte : ColumnUnit → ℕ → ℕ → Session → Result ℕ Refusal → Type 0
FindsByte unit line column s (Ok byte) = OfLines (λ ends source. IsPlace ends unit source line column byte) s
FindsByte unit line column s (Err NoDocument) = HoldsNoDocument s
FindsByte unit line column s (Err NoPlace) = OfLines (λ ends source. (at : ℕ) → ¬ (IsPlace ends unit source line column at)) s
FindsByte unit line column s (Err _) = ⊥

-- the same with a column past the line's text taken as its end, or why there is none
abbrev pub FindsByteClamped : ColumnUnit → ℕ → ℕ → Session → Result ℕ Refusal → Type 0
FindsByteClamped unit line column s (Ok byte) = OfLines (λ ends source. IsClampedPlace ends unit source line column byte) s
FindsByteClamped unit line column s (Err NoDocument) = HoldsNoDocument s
FindsByteClamped unit line column s (Err NoPlace) = OfLines (λ ends source. HasNoClampedPlace ends unit source line column) s
FindsByteClamped unit line column s (Err _) = ⊥

-- how much of the document's text is before a byte, in a unit, or why it isn't told
abbrev pub FindsOffset : ColumnUnit → ℕ → Session → Result ℕ Refusal → Type 0
FindsOffset unit byte s (Ok offset) = OfText (λ source. IsCharBoundary source byte × (offset ≡ offset_in unit source byte)) s
FindsOffset unit byte s (Err NoDocument) = HoldsNoDocument s
FindsOffset unit byte s (Err NoPlace) = OfText (λ source. ¬ (IsCharBoundary source byte)) s
FindsOffset unit byte s (Err _) = ⊥

-- the byte that has so much of the document's text before it, in a unit, or why there is none
abbrev pub FindsByteOfOffset : ColumnUnit → ℕ → Session → Result ℕ Refusal → Type 0
FindsByteOfOffset unit offset s (Ok byte) = OfText (λ source. IsCharBoundary source byte × (offset_in unit source byte ≡ offset)) s
FindsByteOfOffset unit offset s (Err NoDocument) = HoldsNoDocument s
FindsByteOfOffset unit offset s (Err NoPlace) = OfText (λ source. (at : ℕ) → IsCharBoundary source at → offset_in unit source at ≢ offset) s
FindsByteOfOffset unit offset s (Err _) = ⊥
