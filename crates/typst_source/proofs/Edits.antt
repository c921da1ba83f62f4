-- A range of a text that gives way to other bytes.
use Rattle.std.proofs.Common.{◌≡◌, ℕ, ◌+◌, ◌-◌, ◌≤◌, List, ◌++◌, length, take, drop, sym, ap, subst, ◌∙◌, arith, length-append, append_assoc, length-take-le, length-drop, take-append-drop}
use Rattle.std.specs.List.{replace_range}
use Rattle.std.specs.Prelude.{slice_range}
use Rattle.std.specs.Str.{IsUtf8, IsCharBoundary}
use Rattle.std.specs.declared.ops.Range.{Range}
use Rattle.std.proofs.lemmas.List.{drop-drop}
use Rattle.std.proofs.lemmas.Str.{IsUtf8-append, IsUtf8-drop, IsCharBoundary-at_seam}
use Rattle.std.proofs.Math.Seq.{take-append_seam, drop-append_seam}
use Rattle.typst_source.specs.Fits.{FitsText}
use Rattle.typst_source.specs.Reparsed.{IsCut, cut_of}

-- the same range of the same text
pub fits_of : (source other : List ℕ) (range : Range ℕ) → source ≡ other → FitsText source range → FitsText other range
fits_of source other range same fits = subst (λ s. FitsText s range) same fits

module _ (old with : List ℕ) (range : Range ℕ) (fits : FitsText old range) where
  inside : range.start ≤ length old
  inside = omega (arith, fits.ordered, fits.end.0)

  front_length : length (take range.start old) ≡ range.start
  front_length = length-take-le range.start old inside

  middle_length : length (take range.start old ++ with) ≡ range.start + length with
  middle_length = omega (arith, length-append (take range.start old) with, front_length)

  pub new_length : length (replace_range old range.start range.end with) ≡ range.start + length with + (length old - range.end)
  new_length = omega (arith, length-append (take range.start old ++ with) (drop range.end old), middle_length, length-drop range.end old)

  pub cut_is : IsCut old (replace_range old range.start range.end with) (cut_of range (length with))
  cut_is = record {
    old_ordered = fits.ordered;
    new_ordered = omega arith;
    old_within = fits.end.0;
    new_within = omega (arith, new_length);
    before = sym (ap (take range.start) (append_assoc (take range.start old) with (drop range.end old))
        ∙ ap (λ i. take i (take range.start old ++ (with ++ drop range.end old))) (sym front_length) ∙ take-append_seam (take range.start old) (with ++ drop range.end old));
    behind = sym (ap (λ i. drop i (replace_range old range.start range.end with)) (sym middle_length) ∙ drop-append_seam (take range.start old ++ with) (drop range.end old));
  }

  -- the old text, put together again
  pub restored : (gone : List ℕ) → gone ≡ slice_range old range.start range.end
      → replace_range (replace_range old range.start range.end with) range.start (range.start + length with) gone ≡ old
  restored gone is =
      let parts : range.start + (range.end - range.start) ≡ range.end = omega (arith, fits.ordered) in
      (λ i. (sym cut_is.before i ++ is i) ++ sym cut_is.behind i)
      ∙ append_assoc (take range.start old) (slice_range old range.start range.end) (drop range.end old)
      ∙ ap (λ i. take range.start old ++ (slice_range old range.start range.end ++ drop i old)) (sym parts)
      ∙ ap (λ s. take range.start old ++ (slice_range old range.start range.end ++ s)) (sym (drop-drop (range.end - range.start) range.start old))
      ∙ ap (λ s. take range.start old ++ s) (take-append-drop (range.end - range.start) (drop range.start old))
      ∙ take-append-drop range.start old

  module _ (old_utf8 : IsUtf8 old) (with_utf8 : IsUtf8 with) where
    back_utf8 : IsUtf8 (drop range.end old)
    back_utf8 = IsUtf8-drop old range.end old_utf8 fits.end

    pub new_start : IsCharBoundary (replace_range old range.start range.end with) range.start
    new_start =
        subst (IsCharBoundary (replace_range old range.start range.end with)) front_length
        (IsCharBoundary-at_seam (replace_range old range.start range.end with) (take range.start old) (with ++ drop range.end old) (append_assoc (take range.start old) with (drop range.end old)) (IsUtf8-append with (drop range.end old) with_utf8 back_utf8))

    pub new_end : IsCharBoundary (replace_range old range.start range.end with) (range.start + length with)
    new_end =
        subst (IsCharBoundary (replace_range old range.start range.end with)) middle_length
        (IsCharBoundary-at_seam (replace_range old range.start range.end with) (take range.start old ++ with) (drop range.end old) (λ _. replace_range old range.start range.end with) back_utf8)
