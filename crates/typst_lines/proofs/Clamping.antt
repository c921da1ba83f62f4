-- Columns past the text of a line.
use Rattle.std.proofs.Common.{◌≡◌, ℕ, ◌+◌, ◌-◌, ◌<◌, ◌≤◌, inr, List, length, take, drop, ap, sym, ◌∙◌, arith, Option, Some, None, sum_by, length-take, length-drop}
use Rattle.std.specs.List.{slice_range}
use Rattle.std.specs.Prelude.{MatchOption}
use Rattle.std.proofs.lemmas.List.{take-take}
use Rattle.typst_lines.specs.Clamped.{line_end_len, line_text, IsTextOfLine, IsClampedPlace, HasNoClampedPlace}
use Rattle.typst_lines.specs.Columns.{width, IsPlace}
use Rattle.typst_lines.specs.TextLines.{lines, line_bytes, bytes_before}
use Rattle.typst_lines.specs.declared.column.ColumnUnit.{ColumnUnit}
use Rattle.typst_lines.specs.declared.ends.LineEnds.{LineEnds}

-- the first bytes of a line's range, without those of its line end
pub text_of_line : (ends : LineEnds) (text bytes : List ℕ) (line s e n : ℕ) → line < length (lines ends text) → s ≡ bytes_before ends text line
    → slice_range text s e ≡ line_bytes ends text line → s ≤ e → e ≤ length text → bytes ≡ slice_range text s e
    → n ≡ length bytes - line_end_len ends bytes → IsTextOfLine ends text line (record { start = s; end = s + n })
text_of_line ends text bytes line s e n there begin whole order inside is en =
    let long : length (slice_range text s e) ≡ e - s = omega (arith, length-take (e - s) (drop s text), length-drop s text) in
    let same = ap (λ l. length l) is in
    let short : n ≤ e - s = omega arith in
    let z : s + n - s ≡ n = omega arith in
    let all : bytes ≡ line_bytes ends text line = is ∙ whole in
    let first : slice_range text s (s + n) ≡ take n bytes =
    ap (λ (k : ℕ). take k (drop s text)) z ∙ sym (take-take n (e - s) (drop s text) short) ∙ ap (take n) (sym is) in
    let part : take n bytes ≡ line_text ends text line =
    ap (λ (k : ℕ). take k bytes) en ∙ ap (λ (l : List ℕ). take (length l - line_end_len ends l) l) all in
    let count : length (line_text ends text line) ≡ n = omega (arith, ap (λ l. length l) part, length-take n bytes) in
    record {
      there = there;
      begin = begin;
      bytes = first ∙ part;
      behind = ap (λ (k : ℕ). s + k) (sym count);
      inside = omega arith;
    }

-- the end of a line's text has all columns from there on
pub clamped_past : (ends : LineEnds) (unit : ColumnUnit) (text : List ℕ) (line column s e : ℕ) → IsTextOfLine ends text line (record { start = s; end = e })
    → sum_by (width unit) (line_text ends text line) ≤ column → IsClampedPlace ends unit text line column e
clamped_past ends unit text line column s e is past = record {
  there = is.there;
  within = λ less. absurd (omega arith);
  past = λ _. is.behind ∙ ap (λ (k : ℕ). k + length (line_text ends text line)) is.begin;
}

-- before it a column has its own place, or none
pub clamped_within : (ends : LineEnds) (unit : ColumnUnit) (text : List ℕ) (line column : ℕ) (answer : Option ℕ) → line < length (lines ends text)
    → column < sum_by (width unit) (line_text ends text line)
    → MatchOption answer ((at : ℕ) → IsPlace ends unit text line column at → ⊥) (λ at. IsPlace ends unit text line column at)
    → MatchOption answer (HasNoClampedPlace ends unit text line column) (λ at. IsClampedPlace ends unit text line column at)
clamped_within ends unit text line column None there less h = inr (less, h)
clamped_within ends unit text line column (Some at) there less h = record { there = there; within = λ _. h; past = λ past. absurd (omega arith) }
