-- What a tree that becomes an error keeps: the bytes, the number of trees, their levels, and where the text can be cut.
use Rattle.std.proofs.Common.{◌≡◌, ℕ, ◌+◌, ◌-◌, ◌≤◌, min, Bool, true, false, cond, List, [], ◌∷◌, ◌++◌, length, take, drop, reverse, Some, refl, sym, ap, subst, ◌∙◌, arith}
use Rattle.std.proofs.lemmas.List.{reverse-append, reverse-reverse}
use Rattle.typst_parser.specs.Events.{bytes, bytes_of, CanBeCut, kind_of, levels, trees}
use Rattle.typst_parser.specs.Mistakes.{can_be_mistaken, mistaken, with_mistake}
use Rattle.typst_parser.specs.Spans.{children_of, span, width}
use Rattle.typst_parser.specs.declared.event.Event.{Event}
use Rattle.typst_parser.specs.declared.event.Event.TheVariants.{Error}
use Rattle.typst_parser.specs.declared.fault.Fault.TheVariants as faults
use Rattle.typst_parser.proofs.Heights.{bytes-reverse, heights, high_length, levels_high, levels_length, NoHigher, reverse-cons, same_high}
use Rattle.typst_parser.proofs.Retags.{CutBack, cut_drop, of_back, step_bytes, step_cut, step_high, to_back}
use Rattle.typst_parser.proofs.Spanning.{reverse-but_last}
use Rattle.typst_grammar.specs.declared.change.Effect.TheVariants as effects
use Rattle.typst_grammar.specs.declared.expectation.Expectation.{Expectation}

-- a number below two limits, of which the second is the lower one
pub capped_twice : (n end : ℕ) → end ≤ 0xFFFF_FFFF_FFFF_FFFF → min (min n 0xFFFF_FFFF_FFFF_FFFF) end ≡ min n end
capped_twice n end low = omega (arith, low)

-- what the code makes
pub mistake_is : (what : Expectation) (end : ℕ) (all front : List Event) (e : Event) (len : ℕ) (new : List Event) → all ≡ front ++ e ∷ [] → can_be_mistaken (reverse all) ≡ true
    → len ≡ min (bytes_of e + width (children_of e) (reverse front)) end
    → new ≡ take (length front - span (children_of e) (reverse front)) front ++ Error (faults.Mistake what (kind_of e)) len ∷ []
    → new ≡ mistaken what end all
mistake_is what end all front e len new all_is can len_is new_is =
    let k : ℕ = span (children_of e) (reverse front) in
    let error : ℕ → Event = λ n. Error (faults.Mistake what (kind_of e)) n in
    let before : take (length front - k) front ≡ reverse (drop k (reverse front)) = sym (reverse-reverse (take (length front - k) front)) ∙ ap reverse (reverse-but_last k front) in
    let back : reverse all ≡ e ∷ reverse front = ap reverse all_is ∙ reverse-append front (e ∷ []) in
    new_is
    ∙ (λ i. before i ++ error (len_is i) ∷ [])
    ∙ sym (reverse-cons (error (min (bytes_of e + width (children_of e) (reverse front)) end)) (drop k (reverse front)))
    ∙ sym (ap (λ es. reverse (with_mistake what end es)) back)
    ∙ sym (ap (λ b. cond b (reverse (with_mistake what end (reverse all))) all) can)

-- the laws, for a last tree that becomes an error
high : (what : Expectation) (end : ℕ) (back : List Event) → NoHigher (heights (with_mistake what end back)) (heights back)
high what end [] = tt
high what end (e ∷ back) = step_high (Some (effects.Wrong what)) end e back (drop (span (children_of e) back) back) (same_high (heights (drop (span (children_of e) back) back)))

by_case : (P : List Event → Type 0) (what : Expectation) (end : ℕ) (es : List Event) → P (reverse (with_mistake what end (reverse es))) → P es → P (mistaken what end es)
by_case P what end es changed same = by (can_be_mistaken (reverse es))
  where
    by : (b : Bool) → P (cond b (reverse (with_mistake what end (reverse es))) es)
    by true = changed
    by false = same

pub mistaken_high : (what : Expectation) (end : ℕ) (es : List Event) → NoHigher (levels (mistaken what end es)) (levels es)
mistaken_high what end es =
    by_case (λ fs. NoHigher (levels fs) (levels es)) what end es
    (subst (λ fs. NoHigher (levels (reverse (with_mistake what end (reverse es)))) (levels fs)) (reverse-reverse es) (levels_high (with_mistake what end (reverse es)) (reverse es) (high what end (reverse es))))
    (same_high (levels es))

pub mistaken_trees : (what : Expectation) (end : ℕ) (es : List Event) → trees (mistaken what end es) ≡ trees es
mistaken_trees what end es = sym (levels_length (mistaken what end es)) ∙ high_length (levels (mistaken what end es)) (levels es) (mistaken_high what end es) ∙ levels_length es

back_bytes : (what : Expectation) (end : ℕ) (back : List Event) → bytes back ≤ end → bytes (with_mistake what end back) ≡ bytes back
back_bytes what end [] low = refl
back_bytes what end (e ∷ back) low =
    let step = step_bytes (Some (effects.Wrong what)) end e back (omega (arith, low)) in
    omega (arith, step)

pub mistaken_bytes : (what : Expectation) (end : ℕ) (es : List Event) → bytes es ≤ end → bytes (mistaken what end es) ≡ bytes es
mistaken_bytes what end es low =
    by_case (λ fs. bytes fs ≡ bytes es) what end es
    (bytes-reverse (with_mistake what end (reverse es)) ∙ back_bytes what end (reverse es) (omega (arith, bytes-reverse es, low)) ∙ bytes-reverse es)
    refl

back_cut : (what : Expectation) (end : ℕ) (text : List ℕ) (back : List Event) → bytes back ≤ end → CutBack text back → CutBack text (with_mistake what end back)
back_cut what end text [] low p = tt
back_cut what end text (e ∷ back) low p =
    let k : ℕ = span (children_of e) back in
    step_cut (Some (effects.Wrong what)) text end e back (drop k back) (cut_drop text k back p.1)
    (step_bytes (Some (effects.Wrong what)) end e back (omega (arith, low))) p.0

pub mistaken_cut : (what : Expectation) (end : ℕ) (text : List ℕ) (es : List Event) → bytes es ≤ end → CanBeCut text es → CanBeCut text (mistaken what end es)
mistaken_cut what end text es low p =
    by_case (CanBeCut text) what end es
    (of_back text (with_mistake what end (reverse es)) (back_cut what end text (reverse es) (omega (arith, bytes-reverse es, low)) (to_back text (reverse es) (subst (CanBeCut text) (sym (reverse-reverse es)) p))))
    p
