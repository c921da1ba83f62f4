-- Lists of spans.
use Rattle.std.proofs.Common.{◌≡◌, ◌≢◌, Bool, true, false, List, [], ◌∷◌, ◌++◌, refl, ap, ◌∙◌, sym, arith, if◌then◌else◌}
use Rattle.std.proofs.lemmas.Bool.Decides.{nat_tests}
use Rattle.typst_base.specs.Span.{SpanParts, detached, first_attached, numbered, points_nowhere}

passed_over : (b : Bool) (x : SpanParts) (xs ys : List SpanParts) → b ≡ points_nowhere x → (if b then first_attached xs else x) ≡ detached → (first_attached xs ≡ detached → first_attached (xs ++ ys) ≡ first_attached ys) → (if b then first_attached (xs ++ ys) else x) ≡ first_attached ys
passed_over true x xs ys n e rest = rest e
passed_over false x xs ys n e rest = let here : points_nowhere x ≡ true = ap points_nowhere e in cc

-- after spans that all point nowhere, the first that points somewhere is sought in the rest
pub first_attached-append : (xs ys : List SpanParts) → first_attached xs ≡ detached → first_attached (xs ++ ys) ≡ first_attached ys
first_attached-append [] ys e = refl
first_attached-append (x ∷ xs) ys e =
    passed_over (points_nowhere x) x xs ys refl e (first_attached-append xs ys)

pub first_attached-more : (xs : List SpanParts) (s : SpanParts) → first_attached xs ≡ detached → s ≡ detached → first_attached (xs ++ s ∷ []) ≡ detached
first_attached-more xs s e nowhere = first_attached-append xs (s ∷ []) e ∙ ap (λ t. first_attached (t ∷ [])) nowhere

same_parts : (s : SpanParts) → points_nowhere s ≡ true → s ≡ detached
same_parts s e =
    let f : s.file ≡ 0 = grind (arith, nat_tests) in
    let l : s.low ≡ 1 = grind (arith, nat_tests) in
    ap (λ a. numbered a s.low) f ∙ ap (λ b. numbered 0 b) l

at_once : (b : Bool) (s : SpanParts) → b ≡ points_nowhere s → s ≢ detached → s ≡ (if b then detached else s)
at_once true s e ne = absurd (ne (same_parts s (sym e)))
at_once false s e ne = refl

pub first_attached-found : (xs : List SpanParts) (s : SpanParts) → first_attached xs ≡ detached → s ≢ detached → s ≡ first_attached (xs ++ s ∷ [])
first_attached-found xs s e ne = at_once (points_nowhere s) s refl ne ∙ sym (first_attached-append xs (s ∷ []) e)
