-- The levels of the trees of events, the last tree first, and how they change when events do.
use Rattle.std.proofs.Common.{◌≡◌, ℕ, zero, suc, ◌+◌, ◌-◌, ◌≤◌, max, min, List, [], ◌∷◌, ◌++◌, length, take, drop, reverse, refl, sym, ap, subst, ◌∙◌, length-append, arith}
use Rattle.std.proofs.lemmas.Grind.{reverse_onto}
use Rattle.std.proofs.lemmas.List.{drop_at, drop-drop, length-drop, length-reverse, length-take, reverse-append, take-append-drop, take_at}
use Rattle.std.proofs.Math.Seq.{drop-nil}
use Rattle.typst_parser.specs.Events.{but_last, bytes, greatest, last_some, levels, levels_after, levels_onto, trees, trees_after, trees_onto}
use Rattle.typst_parser.specs.Spans.{children_of, span}
use Rattle.typst_parser.specs.declared.event.Event.{Event}
use Rattle.typst_parser.specs.declared.event.Event.TheVariants.{Leaf, Error, Node}

-- the levels of the trees after an event, the last tree first
abbrev pub height_after : Event → List ℕ → List ℕ
height_after (Leaf kind len) hs = 1 ∷ hs
height_after (Error fault len) hs = 1 ∷ hs
height_after (Node kind children) hs = suc (greatest (take children hs)) ∷ drop children hs

abbrev pub heights : List Event → List ℕ
heights [] = []
heights (e ∷ back) = height_after e (heights back)

pub reverse-cons : {X : Type 0} (x : X) (xs : List X) → reverse (x ∷ xs) ≡ reverse xs ++ x ∷ []
reverse-cons x xs = reverse_onto xs x []

greatest-append : (ns ms : List ℕ) → greatest (ns ++ ms) ≡ max (greatest ns) (greatest ms)
greatest-append [] ms = omega arith
greatest-append (n ∷ ns) ms = omega (arith, greatest-append ns ms)

greatest-reverse : (ns : List ℕ) → greatest (reverse ns) ≡ greatest ns
greatest-reverse [] = refl
greatest-reverse (n ∷ ns) = ap greatest (reverse-cons n ns) ∙ (omega (arith, greatest-append (reverse ns) (n ∷ []), greatest-reverse ns))

split_reverse : {X : Type 0} (k : ℕ) (hs : List X) → reverse hs ≡ reverse (drop k hs) ++ reverse (take k hs)
split_reverse k hs = ap reverse (sym (take-append-drop k hs)) ∙ reverse-append (take k hs) (drop k hs)

seam : {X : Type 0} (k : ℕ) (hs : List X) → length (reverse (drop k hs)) ≡ length (reverse hs) - k
seam k hs = length-reverse (drop k hs) ∙ length-drop k hs ∙ ap (λ n. n - k) (sym (length-reverse hs))

pub but_last-reverse : {X : Type 0} (k : ℕ) (hs : List X) → but_last k (reverse hs) ≡ reverse (drop k hs)
but_last-reverse k hs =
    ap (take (length (reverse hs) - k)) (split_reverse k hs) ∙ take_at (reverse (drop k hs)) (reverse (take k hs)) (length (reverse hs) - k) (seam k hs)

pub last_some-reverse : {X : Type 0} (k : ℕ) (hs : List X) → last_some k (reverse hs) ≡ reverse (take k hs)
last_some-reverse k hs =
    ap (drop (length (reverse hs) - k)) (split_reverse k hs) ∙ drop_at (reverse (drop k hs)) (reverse (take k hs)) (length (reverse hs) - k) (seam k hs)

pub after-reverse : (e : Event) (hs : List ℕ) → levels_after e (reverse hs) ≡ reverse (height_after e hs)
after-reverse (Leaf kind len) hs = sym (reverse-cons 1 hs)
after-reverse (Error fault len) hs = sym (reverse-cons 1 hs)
after-reverse (Node kind children) hs =
    (λ i. but_last-reverse children hs i ++ suc (greatest (last_some-reverse children hs i)) ∷ [])
    ∙ ap (λ n. reverse (drop children hs) ++ suc n ∷ []) (greatest-reverse (take children hs))
    ∙ sym (reverse-cons (suc (greatest (take children hs))) (drop children hs))

pub levels-push : (ns : List ℕ) (es : List Event) (e : Event) → levels_onto ns (es ++ e ∷ []) ≡ levels_after e (levels_onto ns es)
levels-push ns [] e = refl
levels-push ns (f ∷ es) e = levels-push (levels_after f ns) es e

pub levels-reverse : (back : List Event) → levels (reverse back) ≡ reverse (heights back)
levels-reverse [] = refl
levels-reverse (e ∷ back) =
    ap levels (reverse-cons e back) ∙ levels-push [] (reverse back) e ∙ ap (levels_after e) (levels-reverse back) ∙ after-reverse e (heights back)

-- there are as many trees as levels
after_length : (e : Event) (ns : List ℕ) → length (levels_after e ns) ≡ trees_after e (length ns)
after_length (Leaf kind len) ns = omega (arith, length-append ns (1 ∷ []))
after_length (Error fault len) ns = omega (arith, length-append ns (1 ∷ []))
after_length (Node kind children) ns =
    omega (arith, length-append (but_last children ns) (suc (greatest (last_some children ns)) ∷ []), length-take (length ns - children) ns)

onto_length : (ns : List ℕ) (es : List Event) → length (levels_onto ns es) ≡ trees_onto (length ns) es
onto_length ns [] = refl
onto_length ns (e ∷ es) = onto_length (levels_after e ns) es ∙ ap (λ n. trees_onto n es) (after_length e ns)

pub levels_length : (es : List Event) → length (levels es) ≡ trees es
levels_length es = onto_length [] es

-- as many numbers, and none is greater than the one at its place
abbrev pub NoHigher : List ℕ → List ℕ → Type 0
NoHigher [] [] = Unit {0}
NoHigher [] (n ∷ ns) = ⊥
NoHigher (m ∷ ms) [] = ⊥
NoHigher (m ∷ ms) (n ∷ ns) = (m ≤ n) × NoHigher ms ns

pub same_high : (ns : List ℕ) → NoHigher ns ns
same_high [] = tt
same_high (n ∷ ns) = (omega arith, same_high ns)

pub high_length : (ms ns : List ℕ) → NoHigher ms ns → length ms ≡ length ns
high_length [] [] h = refl
high_length [] (n ∷ ns) h = absurd h
high_length (m ∷ ms) [] h = absurd h
high_length (m ∷ ms) (n ∷ ns) h = ap suc (high_length ms ns h.1)

pub high_take : (k : ℕ) (ms ns : List ℕ) → NoHigher ms ns → greatest (take k ms) ≤ greatest (take k ns)
high_take zero ms ns h = omega arith
high_take (suc k) [] [] h = omega arith
high_take (suc k) [] (n ∷ ns) h = absurd h
high_take (suc k) (m ∷ ms) [] h = absurd h
high_take (suc k) (m ∷ ms) (n ∷ ns) h = let rest : greatest (take k ms) ≤ greatest (take k ns) = high_take k ms ns h.1 in omega (arith, h.0)

high_drop : (k : ℕ) (ms ns : List ℕ) → NoHigher ms ns → NoHigher (drop k ms) (drop k ns)
high_drop zero ms ns h = h
high_drop (suc k) [] [] h = tt
high_drop (suc k) [] (n ∷ ns) h = absurd h
high_drop (suc k) (m ∷ ms) [] h = absurd h
high_drop (suc k) (m ∷ ms) (n ∷ ns) h = high_drop k ms ns h.1

high_append : (ms ns ks ls : List ℕ) → NoHigher ms ns → NoHigher ks ls → NoHigher (ms ++ ks) (ns ++ ls)
high_append [] [] ks ls h g = g
high_append [] (n ∷ ns) ks ls h g = absurd h
high_append (m ∷ ms) [] ks ls h g = absurd h
high_append (m ∷ ms) (n ∷ ns) ks ls h g = (h.0, high_append ms ns ks ls h.1 g)

pub high-reverse : (ms ns : List ℕ) → NoHigher ms ns → NoHigher (reverse ms) (reverse ns)
high-reverse [] [] h = tt
high-reverse [] (n ∷ ns) h = absurd h
high-reverse (m ∷ ms) [] h = absurd h
high-reverse (m ∷ ms) (n ∷ ns) h =
    let apart : NoHigher (reverse ms ++ m ∷ []) (reverse ns ++ n ∷ []) = high_append (reverse ms) (reverse ns) (m ∷ []) (n ∷ []) (high-reverse ms ns h.1) (h.0, tt) in
    subst (λ ks. NoHigher ks (reverse (n ∷ ns))) (sym (reverse-cons m ms)) (subst (NoHigher (reverse ms ++ m ∷ [])) (sym (reverse-cons n ns)) apart)

-- an event after other events
pub high_after : (e : Event) (ms ns : List ℕ) → NoHigher ms ns → NoHigher (height_after e ms) (height_after e ns)
high_after (Leaf kind len) ms ns h = (omega arith, h)
high_after (Error fault len) ms ns h = (omega arith, h)
high_after (Node kind children) ms ns h = let low : greatest (take children ms) ≤ greatest (take children ns) = high_take children ms ns h in (omega arith, high_drop children ms ns h)

pub levels_high : (new old : List Event) → NoHigher (heights new) (heights old) → NoHigher (levels (reverse new)) (levels (reverse old))
levels_high new old h =
    subst (λ ks. NoHigher ks (levels (reverse old))) (sym (levels-reverse new)) (subst (NoHigher (reverse (heights new))) (sym (levels-reverse old)) (high-reverse (heights new) (heights old) h))

-- the trees before the last ones
heights_length : (back : List Event) → length (heights back) ≤ length back
heights_length [] = omega arith
heights_length (Leaf kind len ∷ back) = omega (arith, heights_length back)
heights_length (Error fault len ∷ back) = omega (arith, heights_length back)
heights_length (Node kind children ∷ back) = omega (arith, heights_length back, length-drop children (heights back))

drop_capped : (n len : ℕ) (hs : List ℕ) → length hs ≤ len → drop (min n len) hs ≡ drop n hs
drop_capped n len [] low = drop-nil (min n len) ∙ sym (drop-nil n)
drop_capped zero len (h ∷ hs) low = let none : min 0 len ≡ 0 = omega arith in ap (λ k. drop k (h ∷ hs)) none
drop_capped (suc n) zero (h ∷ hs) low = absurd (omega arith)
drop_capped (suc n) (suc len) (h ∷ hs) low =
    let one : min (suc n) (suc len) ≡ suc (min n len) = omega arith in ap (λ k. drop k (h ∷ hs)) one ∙ drop_capped n len hs (omega arith)

drop_after : (n : ℕ) (e : Event) (hs : List ℕ) → drop (suc n) (height_after e hs) ≡ drop (n + children_of e) hs
drop_after n (Leaf kind len) hs = let none : n ≡ n + 0 = omega arith in ap (λ k. drop k hs) none
drop_after n (Error fault len) hs = let none : n ≡ n + 0 = omega arith in ap (λ k. drop k hs) none
drop_after n (Node kind children) hs = let swapped : children + n ≡ n + children = omega arith in drop-drop n children hs ∙ ap (λ k. drop k hs) swapped

pub span_heights : (n : ℕ) (back : List Event) → drop n (heights back) ≡ heights (drop (span n back) back)
span_heights zero back = refl
span_heights (suc n) [] = refl
span_heights (suc n) (e ∷ back) =
    drop_after n e (heights back)
    ∙ sym (drop_capped (n + children_of e) (length back) (heights back) (heights_length back))
    ∙ span_heights (min (n + children_of e) (length back)) back

pub bytes-append : (es fs : List Event) → bytes (es ++ fs) ≡ bytes es + bytes fs
bytes-append [] fs = omega arith
bytes-append (e ∷ es) fs = omega (arith, bytes-append es fs)

pub bytes-reverse : (es : List Event) → bytes (reverse es) ≡ bytes es
bytes-reverse [] = refl
bytes-reverse (e ∷ es) = ap bytes (reverse-cons e es) ∙ omega (arith, bytes-append (reverse es) (e ∷ []), bytes-reverse es)
