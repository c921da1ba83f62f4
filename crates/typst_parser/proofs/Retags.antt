-- What maps keep: the bytes, the number of trees, their levels, and where the text can be cut.
use Rattle.std.proofs.Common.{◌≡◌, ℕ, zero, suc, ◌+◌, ◌-◌, ◌≤◌, ◌<◌, ◌&&◌, min, nat_le, nat_lt, Bool, true, false, cond, List, [], ◌∷◌, ◌++◌, length, take, drop, reverse, Option, Some, None, refl, sym, ap, subst, ◌∙◌, add-one, arith}
use Rattle.std.specs.Str.{IsCharBoundary}
use Rattle.std.proofs.lemmas.Bool.Decides.{nat_tests}
use Rattle.std.proofs.lemmas.List.{reverse-reverse}
use Rattle.typst_base.specs.declared.kind.SyntaxKind.{SyntaxKind}
use Rattle.typst_parser.specs.Events.{bytes, bytes_of, CanBeCut, CanBeCutFrom, greatest, levels, trees}
use Rattle.typst_parser.specs.Retag.{effect_of, expected_back, gone, is_parent, maps_below, put_back, retagged, retagged_back, with_kind}
use Rattle.typst_parser.specs.Spans.{children_of, span, width}
use Rattle.typst_parser.specs.declared.event.Event.{Event}
use Rattle.typst_parser.specs.declared.event.Event.TheVariants.{Leaf, Error, Node}
use Rattle.typst_parser.specs.declared.fault.Fault.TheVariants as faults
use Rattle.typst_parser.proofs.Heights.{bytes-append, bytes-reverse, height_after, heights, high_after, high_length, levels_high, levels_length, NoHigher, reverse-cons, same_high, span_heights}
use Rattle.typst_grammar.specs.declared.change.Effect.{Effect}
use Rattle.typst_grammar.specs.declared.change.Effect.TheVariants as effects
use Rattle.typst_grammar.specs.declared.expectation.Expectation.{Expectation}
use Rattle.typst_grammar.specs.declared.maps.Map.{Map}

parent_has : (e : Event) (back : List Event) → is_parent e back ≡ true → (0 < children_of e) × (children_of e ≤ length back)
parent_has e back is = both (children_of e) (length back) is
  where
    both : (c n : ℕ) → (nat_lt 0 c && nat_le c n) ≡ true → (0 < c) × (c ≤ n)
    both c n is = (grind (arith, nat_tests), grind (arith, nat_tests))

-- levels

kind_height : (kind : Option SyntaxKind) (e : Event) (hs : List ℕ) → height_after (with_kind kind e) hs ≡ height_after e hs
kind_height None e hs = refl
kind_height (Some kind) (Leaf k len) hs = refl
kind_height (Some kind) (Error fault len) hs = refl
kind_height (Some kind) (Node k children) hs = refl

some_height : (n : ℕ) (back : List Event) → 0 < n → 0 < length back → 1 ≤ greatest (take n (heights back))
some_height zero back p q = absurd (omega arith)
some_height (suc n) [] p q = absurd (omega arith)
some_height (suc n) (Leaf kind len ∷ back) p q = omega arith
some_height (suc n) (Error fault len ∷ back) p q = omega arith
some_height (suc n) (Node kind children ∷ back) p q = omega arith

-- a node that gets an error as its last child
child_high : (kind : SyntaxKind) (c : ℕ) (new back : List Event) (ms : List ℕ) → 0 < c → c ≤ length back → NoHigher ms (heights back)
    → NoHigher (suc (greatest (take (c + 1) (1 ∷ ms))) ∷ drop (c + 1) (1 ∷ ms)) (suc (greatest (take c (heights back))) ∷ drop c (heights back))
child_high kind c new back ms some there h =
    let after = high_after (Node kind c) ms (heights back) h in
    let one : 1 ≤ greatest (take c (heights back)) = some_height c back some (omega arith) in
    subst (λ n. NoHigher (suc (greatest (take n (1 ∷ ms))) ∷ drop n (1 ∷ ms)) (suc (greatest (take c (heights back))) ∷ drop c (heights back))) (sym (add-one c))
    (omega (arith, after.0, one), after.1)

expected_high : (what : Expectation) (e : Event) (back rest : List Event) → NoHigher (heights rest) (heights back)
    → NoHigher (heights (expected_back what e back ++ rest)) (heights (e ∷ back))
expected_high what (Leaf kind len) back rest h = high_after (Leaf kind len) (heights rest) (heights back) h
expected_high what (Error fault len) back rest h = high_after (Error fault len) (heights rest) (heights back) h
expected_high what (Node kind children) back rest h = by (is_parent (Node kind children) back) refl
  where
    by : (b : Bool) → is_parent (Node kind children) back ≡ b
        → NoHigher (heights (cond b (Node kind (children + 1) ∷ Error (faults.Expected what) 0 ∷ []) (Node kind children ∷ []) ++ rest)) (heights (Node kind children ∷ back))
    by true is =
        let has = parent_has (Node kind children) back is in
        child_high kind children rest back (heights rest) has.0 has.1 h
    by false is = high_after (Node kind children) (heights rest) (heights back) h

pub step_high : (f : Option Effect) (end : ℕ) (e : Event) (back rest : List Event) → NoHigher (heights rest) (heights (drop (gone f e back) back))
    → NoHigher (heights (put_back f end e back ++ rest)) (heights (e ∷ back))
step_high None end e back rest h = high_after e (heights rest) (heights back) h
step_high (Some (effects.Become r)) end e back rest h =
    subst (λ hs. NoHigher hs (heights (e ∷ back))) (sym (kind_height r.kind e (heights rest))) (high_after e (heights rest) (heights back) h)
step_high (Some (effects.Wrong what)) end (Leaf kind len) back rest h = (omega arith, h)
step_high (Some (effects.Wrong what)) end (Error fault len) back rest h = (omega arith, h)
step_high (Some (effects.Wrong what)) end (Node kind children) back rest h = (omega arith, subst (NoHigher (heights rest)) (sym (span_heights children back)) h)
step_high (Some (effects.Expected what)) end e back rest h = expected_high what e back rest h

high : (k : ℕ) (maps : List (Option Map)) (end : ℕ) (back : List Event) → NoHigher (heights (retagged_back k maps end back)) (heights (drop k back))
unfolding retagged_back
high (suc n) maps end [] = tt
high (suc n) maps end (e ∷ back) = high n maps (end - bytes_of e) back
high zero [] end back = same_high (heights back)
high zero (m ∷ maps) end [] = tt
high zero (m ∷ maps) end (e ∷ back) =
    let f : Option Effect = effect_of m e in
    step_high f end e back (retagged_back (gone f e back) (maps_below f e back ++ maps) (end - bytes_of e) back)
    (high (gone f e back) (maps_below f e back ++ maps) (end - bytes_of e) back)

-- bytes

pub bytes_cut : (n : ℕ) (es : List Event) → bytes (take n es) + bytes (drop n es) ≡ bytes es
bytes_cut zero es = omega arith
bytes_cut (suc n) [] = omega arith
bytes_cut (suc n) (e ∷ es) = omega (arith, bytes_cut n es)

kind_bytes : (kind : Option SyntaxKind) (e : Event) → bytes_of (with_kind kind e) ≡ bytes_of e
kind_bytes None e = refl
kind_bytes (Some kind) (Leaf k len) = refl
kind_bytes (Some kind) (Error fault len) = refl
kind_bytes (Some kind) (Node k children) = refl

expected_bytes : (what : Expectation) (e : Event) (back : List Event) → bytes (expected_back what e back) ≡ bytes_of e
expected_bytes what (Leaf kind len) back = omega arith
expected_bytes what (Error fault len) back = omega arith
expected_bytes what (Node kind children) back = by (is_parent (Node kind children) back)
  where
    by : (b : Bool) → bytes (cond b (Node kind (children + 1) ∷ Error (faults.Expected what) 0 ∷ []) (Node kind children ∷ [])) ≡ 0
    by true = omega arith
    by false = omega arith

pub step_bytes : (f : Option Effect) (end : ℕ) (e : Event) (back : List Event) → bytes (e ∷ back) ≤ end → bytes (put_back f end e back) + bytes (drop (gone f e back) back) ≡ bytes (e ∷ back)
step_bytes None end e back low = omega arith
step_bytes (Some (effects.Become r)) end e back low = omega (arith, kind_bytes r.kind e)
step_bytes (Some (effects.Wrong what)) end e back low = omega (arith, bytes_cut (span (children_of e) back) back, low)
step_bytes (Some (effects.Expected what)) end e back low = omega (arith, expected_bytes what e back)

pub retagged_bytes : (k : ℕ) (maps : List (Option Map)) (end : ℕ) (back : List Event) → bytes back ≤ end → bytes (retagged_back k maps end back) ≡ bytes (drop k back)
unfolding retagged_back
retagged_bytes (suc n) maps end [] low = refl
retagged_bytes (suc n) maps end (e ∷ back) low = retagged_bytes n maps (end - bytes_of e) back (omega (arith, low))
retagged_bytes zero [] end back low = refl
retagged_bytes zero (m ∷ maps) end [] low = refl
retagged_bytes zero (m ∷ maps) end (e ∷ back) low =
    let f : Option Effect = effect_of m e in
    let rest : List Event = retagged_back (gone f e back) (maps_below f e back ++ maps) (end - bytes_of e) back in
    bytes-append (put_back f end e back) rest
    ∙ ap (λ n. bytes (put_back f end e back) + n)
    (retagged_bytes (gone f e back) (maps_below f e back ++ maps) (end - bytes_of e) back (omega (arith, low)))
    ∙ step_bytes f end e back low

-- cuts of the text

-- the text can be cut behind each event
abbrev pub CutBack : List ℕ → List Event → Type 0
CutBack text [] = Unit {0}
CutBack text (e ∷ back) = IsCharBoundary text (bytes (e ∷ back)) × CutBack text back

pub cut_drop : (text : List ℕ) (n : ℕ) (back : List Event) → CutBack text back → CutBack text (drop n back)
cut_drop text zero back p = p
cut_drop text (suc n) [] p = tt
cut_drop text (suc n) (e ∷ back) p = cut_drop text n back p.1

pub from-append : (n : ℕ) (text : List ℕ) (es fs : List Event) → CanBeCutFrom n text es → CanBeCutFrom (n + bytes es) text fs → CanBeCutFrom n text (es ++ fs)
from-append n text [] fs p q = let same : n + 0 ≡ n = omega arith in subst (λ k. CanBeCutFrom k text fs) same q
from-append n text (e ∷ es) fs p q =
    let same : n + (bytes_of e + bytes es) ≡ n + bytes_of e + bytes es = omega arith in
    (p.0, from-append (n + bytes_of e) text es fs p.1 (subst (λ k. CanBeCutFrom k text fs) same q))

from-front : (n : ℕ) (text : List ℕ) (es fs : List Event) → CanBeCutFrom n text (es ++ fs) → CanBeCutFrom n text es
from-front n text [] fs p = tt
from-front n text (e ∷ es) fs p = (p.0, from-front (n + bytes_of e) text es fs p.1)

from-back : (n : ℕ) (text : List ℕ) (es fs : List Event) → CanBeCutFrom n text (es ++ fs) → CanBeCutFrom (n + bytes es) text fs
from-back n text [] fs p = let same : n ≡ n + 0 = omega arith in subst (λ k. CanBeCutFrom k text fs) same p
from-back n text (e ∷ es) fs p =
    let same : n + bytes_of e + bytes es ≡ n + (bytes_of e + bytes es) = omega arith in
    subst (λ k. CanBeCutFrom k text fs) same (from-back (n + bytes_of e) text es fs p.1)

-- an event more
pub cut_push : (text : List ℕ) (es : List Event) (e : Event) → CanBeCut text es → IsCharBoundary text (bytes es + bytes_of e) → CanBeCut text (es ++ e ∷ [])
cut_push text es e p at =
    let same : bytes es + bytes_of e ≡ 0 + bytes es + bytes_of e = omega arith in
    from-append 0 text es (e ∷ []) p (subst (IsCharBoundary text) same at, tt)

pub to_back : (text : List ℕ) (back : List Event) → CanBeCut text (reverse back) → CutBack text back
to_back text [] p = tt
to_back text (e ∷ back) p =
    let q : CanBeCut text (reverse back ++ e ∷ []) = subst (CanBeCut text) (reverse-cons e back) p in
    let same : 0 + bytes (reverse back) + bytes_of e ≡ bytes_of e + bytes back = omega (arith, bytes-reverse back) in
    (subst (IsCharBoundary text) same (from-back 0 text (reverse back) (e ∷ []) q).0, to_back text back (from-front 0 text (reverse back) (e ∷ []) q))

pub of_back : (text : List ℕ) (back : List Event) → CutBack text back → CanBeCut text (reverse back)
of_back text [] p = tt
of_back text (e ∷ back) p =
    let same : bytes_of e + bytes back ≡ bytes (reverse back) + bytes_of e = omega (arith, bytes-reverse back) in
    subst (CanBeCut text) (sym (reverse-cons e back)) (cut_push text (reverse back) e (of_back text back p.1) (subst (IsCharBoundary text) same p.0))

expected_cut : (what : Expectation) (text : List ℕ) (e : Event) (back rest : List Event) (n : ℕ)
    → CutBack text rest → bytes_of e + bytes rest ≡ n → IsCharBoundary text n → CutBack text (expected_back what e back ++ rest)
expected_cut what text (Leaf kind len) back rest n p is at = (subst (IsCharBoundary text) (sym is) at, p)
expected_cut what text (Error fault len) back rest n p is at = (subst (IsCharBoundary text) (sym is) at, p)
expected_cut what text (Node kind children) back rest n p is at = by (is_parent (Node kind children) back)
  where
    here : IsCharBoundary text (0 + bytes rest)
    here = subst (IsCharBoundary text) (sym is) at

    by : (b : Bool) → CutBack text (cond b (Node kind (children + 1) ∷ Error (faults.Expected what) 0 ∷ []) (Node kind children ∷ []) ++ rest)
    by true = let same : 0 + bytes rest ≡ 0 + (0 + bytes rest) = omega arith in (subst (IsCharBoundary text) same here, (here, p))
    by false = (here, p)

pub step_cut : (f : Option Effect) (text : List ℕ) (end : ℕ) (e : Event) (back rest : List Event)
    → CutBack text rest → bytes (put_back f end e back) + bytes rest ≡ bytes (e ∷ back) → IsCharBoundary text (bytes (e ∷ back)) → CutBack text (put_back f end e back ++ rest)
step_cut None text end e back rest p is at = let same : bytes_of e + bytes rest ≡ bytes (e ∷ back) = omega (arith, is) in (subst (IsCharBoundary text) (sym same) at, p)
step_cut (Some (effects.Become r)) text end e back rest p is at =
    let same : bytes_of (with_kind r.kind e) + bytes rest ≡ bytes (e ∷ back) = omega (arith, is) in (subst (IsCharBoundary text) (sym same) at, p)
step_cut (Some (effects.Wrong what)) text end e back rest p is at =
    let same : min (bytes_of e + width (children_of e) back) end + bytes rest ≡ bytes (e ∷ back) = omega (arith, is) in (subst (IsCharBoundary text) (sym same) at, p)
step_cut (Some (effects.Expected what)) text end e back rest p is at =
    expected_cut what text e back rest (bytes (e ∷ back)) p (omega (arith, is, expected_bytes what e back)) at

cut_back : (k : ℕ) (maps : List (Option Map)) (whole : List ℕ) (end : ℕ) (back : List Event) → bytes back ≤ end → CutBack whole back → CutBack whole (retagged_back k maps end back)
unfolding retagged_back
cut_back (suc n) maps whole end [] low p = tt
cut_back (suc n) maps whole end (e ∷ back) low p = cut_back n maps whole (end - bytes_of e) back (omega (arith, low)) p.1
cut_back zero [] whole end back low p = p
cut_back zero (m ∷ maps) whole end [] low p = tt
cut_back zero (m ∷ maps) whole end (e ∷ back) low p =
    let f : Option Effect = effect_of m e in
    let within : bytes back ≤ end - bytes_of e = omega (arith, low) in
    let rest : List Event = retagged_back (gone f e back) (maps_below f e back ++ maps) (end - bytes_of e) back in
    let left : bytes rest ≡ bytes (drop (gone f e back) back) = retagged_bytes (gone f e back) (maps_below f e back ++ maps) (end - bytes_of e) back within in
    step_cut f whole end e back rest (cut_back (gone f e back) (maps_below f e back ++ maps) whole (end - bytes_of e) back within p.1)
    (ap (λ n. bytes (put_back f end e back) + n) left ∙ step_bytes f end e back low) p.0

-- The laws of maps, for events that have no more bytes than come up to their end.

pub retag_high : (map : Map) (end : ℕ) (es : List Event) → NoHigher (levels (retagged map end es)) (levels es)
retag_high map end es =
    subst (λ fs. NoHigher (levels (retagged map end es)) (levels fs)) (reverse-reverse es)
    (levels_high (retagged_back 0 (Some map ∷ []) end (reverse es)) (reverse es) (high 0 (Some map ∷ []) end (reverse es)))

pub retag_trees : (map : Map) (end : ℕ) (es : List Event) → trees (retagged map end es) ≡ trees es
retag_trees map end es =
    sym (levels_length (retagged map end es)) ∙ high_length (levels (retagged map end es)) (levels es) (retag_high map end es) ∙ levels_length es

pub retag_bytes : (map : Map) (end : ℕ) (es : List Event) → bytes es ≤ end → bytes (retagged map end es) ≡ bytes es
retag_bytes map end es low =
    bytes-reverse (retagged_back 0 (Some map ∷ []) end (reverse es))
    ∙ retagged_bytes 0 (Some map ∷ []) end (reverse es) (omega (arith, bytes-reverse es, low))
    ∙ bytes-reverse es

pub retag_cut : (map : Map) (whole : List ℕ) (end : ℕ) (es : List Event) → bytes es ≤ end → CanBeCut whole es → CanBeCut whole (retagged map end es)
retag_cut map whole end es low p =
    of_back whole (retagged_back 0 (Some map ∷ []) end (reverse es))
    (cut_back 0 (Some map ∷ []) whole end (reverse es) (omega (arith, bytes-reverse es, low)) (to_back whole (reverse es) (subst (CanBeCut whole) (sym (reverse-reverse es)) p)))
