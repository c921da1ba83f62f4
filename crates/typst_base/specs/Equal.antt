-- Tests of equality for spans, diagnostic spans and sets of kinds.
-- The lemmas stand here since the laws of a trait cite them.
use Rattle.std.specs.Prelude.{ℕ, ◌≡◌, ◌==◌, ◌&&◌, Bool, true, false, List, Option, Some, None, refl}
use Rattle.std.proofs.Common.{ap}
use Rattle.std.specs.Bool.{beq, Decides}
use Rattle.std.specs.Cmp.{IsEquivalence, IsPartialEquivalence, booleans_Decides, decided, first_so, partial_equiv_from_equiv, second_so, unsigned_Decides}
use Rattle.std.specs.Option.{option_eq}
use Rattle.std.specs.declared.ops.Range.{Range as Interval}
use Rattle.typst_base.specs.DiagSpan.{DiagPlace, OfSpan, External}
use Rattle.typst_base.specs.Span.{SpanParts, numbered}
use Rattle.typst_base.specs.SubRange.{interval}
use lib.Pointwise.{pointwise, pointwise_decides}

joined : (s t : Bool) → s ≡ true → t ≡ true → (s && t) ≡ true
joined true t h e = e
joined false t h e = h

-- If two tests decide one statement each, both tests together decide both statements.
pub both : {P Q : Type 0} (s t : Bool) → Decides s P → Decides t Q → Decides (s && t) (P × Q)
both s t d e = (λ h. (d.0 (first_so s t h), e.0 (second_so s t h)), λ h. joined s t (d.1 h.0) (e.1 h.1))

-- whether two spans have the same file and the same low value
abbrev pub span_eq : SpanParts → SpanParts → Bool
span_eq a b = a.file == b.file && a.low == b.low

-- The test of spans is true exactly if the spans are equal.
pub span_same : (a b : SpanParts) → Decides (span_eq a b) (a ≡ b)
span_same a b =
    let h = both (a.file == b.file) (a.low == b.low) (unsigned_Decides a.file b.file) (unsigned_Decides a.low b.low) in
    (λ e i. numbered ((h.0 e).0 i) ((h.0 e).1 i), λ e. h.1 (ap (λ s. s.file) e, ap (λ s. s.low) e))

-- Equality of spans is an equivalence, as `Eq` requires.
pub span_eq_equivalence : IsEquivalence span_eq
span_eq_equivalence = decided span_eq span_same

-- Equality of spans is symmetric and transitive, as `PartialEq` requires.
pub span_eq_laws : IsPartialEquivalence span_eq
span_eq_laws = partial_equiv_from_equiv span_eq_equivalence

-- whether two ranges have the same ends
abbrev pub interval_eq : Interval ℕ → Interval ℕ → Bool
interval_eq a b = a.start == b.start && a.end == b.end

interval_same : (a b : Interval ℕ) → Decides (interval_eq a b) (a ≡ b)
interval_same a b =
    let h = both (a.start == b.start) (a.end == b.end) (unsigned_Decides a.start b.start) (unsigned_Decides a.end b.end) in
    (λ e i. interval ((h.0 e).0 i) ((h.0 e).1 i), λ e. h.1 (ap (λ r. r.start) e, ap (λ r. r.end) e))

part_same : (p q : Option (Interval ℕ)) → Decides (option_eq interval_eq p q) (p ≡ q)
part_same None None = (λ e. refl, λ e. refl)
part_same None (Some b) = (λ e. cc, λ e. cc)
part_same (Some a) None = (λ e. cc, λ e. cc)
part_same (Some a) (Some b) = let h = interval_same a b in (λ e. ap Some (h.0 e), λ e. h.1 (cc))

-- whether two diagnostic spans have the same span and part, or are the same external range of the same file
abbrev pub place_eq : DiagPlace → DiagPlace → Bool
place_eq (OfSpan s p) (OfSpan t q) = span_eq s t && option_eq interval_eq p q
place_eq (OfSpan s p) (External n r) = false
place_eq (External m q) (OfSpan t p) = false
place_eq (External m q) (External n r) = m == n && interval_eq q r

-- The test of diagnostic spans is true exactly if the spans are equal.
pub place_same : (a b : DiagPlace) → Decides (place_eq a b) (a ≡ b)
place_same (OfSpan s p) (OfSpan t q) =
    let h = both (span_eq s t) (option_eq interval_eq p q) (span_same s t) (part_same p q) in
    (λ e i. OfSpan ((h.0 e).0 i) ((h.0 e).1 i), λ e. h.1 (cc, cc))
place_same (OfSpan s p) (External n r) = (λ e. cc, λ e. cc)
place_same (External m q) (OfSpan t p) = (λ e. cc, λ e. cc)
place_same (External m q) (External n r) =
    let h = both (m == n) (interval_eq q r) (unsigned_Decides m n) (interval_same q r) in
    (λ e i. External ((h.0 e).0 i) ((h.0 e).1 i), λ e. h.1 (cc, cc))

-- Equality of diagnostic spans is an equivalence, as `Eq` requires.
pub place_eq_equivalence : IsEquivalence place_eq
place_eq_equivalence = decided place_eq place_same

-- Equality of diagnostic spans is symmetric and transitive, as `PartialEq` requires.
pub place_eq_laws : IsPartialEquivalence place_eq
place_eq_laws = partial_equiv_from_equiv place_eq_equivalence

-- whether two sets have the same flags
abbrev pub set_eq : List Bool → List Bool → Bool
set_eq = pointwise beq

-- The test of sets is true exactly if the sets are equal.
pub set_same : (a b : List Bool) → Decides (set_eq a b) (a ≡ b)
set_same = pointwise_decides booleans_Decides

-- Equality of sets is an equivalence, as `Eq` requires.
pub set_eq_equivalence : IsEquivalence set_eq
set_eq_equivalence = decided set_eq set_same

-- Equality of sets is symmetric and transitive, as `PartialEq` requires.
pub set_eq_laws : IsPartialEquivalence set_eq
set_eq_laws = partial_equiv_from_equiv set_eq_equivalence
