-- Equality of diagnostics as a test: equal diagnostics report the same.
-- The lemmas stand here since the laws of a trait cite them.
use Rattle.std.specs.Prelude.{ℕ, ◌≡◌, ◌&&◌, Bool, List, nat_eq, String, string_bytes}
use Rattle.std.proofs.Common.{ap, sym, ◌∙◌}
use Rattle.std.specs.Bool.{beq, Decides}
use Rattle.std.specs.Cmp.{IsEquivalence, IsPartialEquivalence, booleans_Decides, decided, on_equiv, partial_equiv_from_equiv, unsigned_Decides}
use Rattle.std.specs.Cmp.Derive.Mapped.{pointwise-map}
use Rattle.std.specs.declared.alloc.Global.{Global}
use Rattle.typst_base.specs.DiagSpan.{DiagPlace}
use Rattle.typst_base.specs.Equal.{both, place_eq, place_same}
use Rattle.typst_base.specs.declared.spanned.Spanned.{Spanned}
use Rattle.typst_node.specs.Diagnostics.{PlacedHint, Report}
use Rattle.typst_node.specs.Reported.{placed_hint, report}
use Rattle.typst_node.specs.declared.node.diagnostics.SyntaxDiagnostic.{SyntaxDiagnostic}
use lib.Pointwise.{pointwise, pointwise_decides}

abbrev placed_hint_of : List ℕ → DiagPlace → PlacedHint
placed_hint_of text place = record { text = text; place = place }

abbrev report_of : Bool → DiagPlace → List ℕ → List PlacedHint → Report
report_of is_error place message hints = record { is_error = is_error; place = place; message = message; hints = hints }

-- whether two texts are the same
abbrev text_eq : List ℕ → List ℕ → Bool
text_eq = pointwise nat_eq

text_same : (a b : List ℕ) → Decides (text_eq a b) (a ≡ b)
text_same = pointwise_decides unsigned_Decides

-- whether two hints have the same text and the same place
abbrev hint_eq : PlacedHint → PlacedHint → Bool
hint_eq a b = text_eq a.text b.text && place_eq a.place b.place

hint_same : (a b : PlacedHint) → Decides (hint_eq a b) (a ≡ b)
hint_same a b =
    let h = both (text_eq a.text b.text) (place_eq a.place b.place) (text_same a.text b.text) (place_same a.place b.place) in
    (λ e i. placed_hint_of ((h.0 e).0 i) ((h.0 e).1 i), λ e. h.1 (ap (λ t. t.text) e, ap (λ t. t.place) e))

-- whether two reports are both errors or both warnings, with the same place, the same message and the same hints
abbrev report_eq : Report → Report → Bool
report_eq a b =
    beq a.is_error b.is_error && (place_eq a.place b.place && (text_eq a.message b.message && pointwise hint_eq a.hints b.hints))

report_same : (a b : Report) → Decides (report_eq a b) (a ≡ b)
report_same a b =
    let hints = pointwise hint_eq a.hints b.hints in
    let said = both (text_eq a.message b.message) hints (text_same a.message b.message) (pointwise_decides hint_same a.hints b.hints) in
    let placed = both (place_eq a.place b.place) (text_eq a.message b.message && hints) (place_same a.place b.place) said in
    let h = both (beq a.is_error b.is_error) (place_eq a.place b.place && (text_eq a.message b.message && hints)) (booleans_Decides a.is_error b.is_error) placed in (
      λ e i. report_of ((h.0 e).0 i) ((h.0 e).1.0 i) ((h.0 e).1.1.0 i) ((h.0 e).1.1.1 i),
      λ e. h.1 (ap (λ r. r.is_error) e, (ap (λ r. r.place) e, (ap (λ r. r.message) e, ap (λ r. r.hints) e))),
    )

-- whether two diagnostics are both errors or both warnings, with the same place, the same message and the same hints
abbrev pub diagnostic_eq : SyntaxDiagnostic → SyntaxDiagnostic → Bool
diagnostic_eq d e =
    beq d.is_error e.is_error
    && (place_eq d.span e.span
    && (text_eq (string_bytes d.message) (string_bytes e.message)
    && pointwise (λ (a b : Spanned (String Global) DiagPlace). hint_eq (placed_hint a) (placed_hint b)) d.hints.items e.hints.items))

by_report : (d e : SyntaxDiagnostic) → report_eq (report d) (report e) ≡ diagnostic_eq d e
by_report d e =
    ap (λ hs. beq d.is_error e.is_error && (place_eq d.span e.span && (text_eq (string_bytes d.message) (string_bytes e.message) && hs)))
    (pointwise-map placed_hint hint_eq d.hints.items e.hints.items)

-- two diagnostics are equal exactly if they report the same
pub diagnostic_same : (d e : SyntaxDiagnostic) → Decides (diagnostic_eq d e) (report d ≡ report e)
diagnostic_same d e =
    let h = report_same (report d) (report e) in
    (λ t. h.0 (by_report d e ∙ t), λ r. sym (by_report d e) ∙ h.1 r)

by_reports : IsEquivalence (λ d e. report_eq (report d) (report e))
by_reports = on_equiv report (decided report_eq report_same)

-- equality of diagnostics is an equivalence, as `Eq` requires
pub diagnostic_eq_equivalence : IsEquivalence diagnostic_eq
diagnostic_eq_equivalence = record {
  refl = λ d. sym (by_report d d) ∙ by_reports.refl d;
  symm = λ d e. sym (by_report d e) ∙ (by_reports.symm d e ∙ by_report e d);
  congr = λ d e f t. sym (by_report d f) ∙ (by_reports.congr d e f (by_report d e ∙ t) ∙ by_report e f);
}

-- equality of diagnostics is symmetric and transitive, as `PartialEq` requires
pub diagnostic_eq_laws : IsPartialEquivalence diagnostic_eq
diagnostic_eq_laws = partial_equiv_from_equiv diagnostic_eq_equivalence
