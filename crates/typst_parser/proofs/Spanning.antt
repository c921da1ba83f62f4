-- What the loop over the events of the last trees keeps.
use Rattle.std.proofs.Common.{◌≡◌, ℕ, zero, suc, ◌+◌, ◌-◌, ◌≤◌, ◌<◌, min, List, [], ◌∷◌, ◌++◌, length, reverse, take, drop, replicate, get_or, refl, sym, ap, ◌∙◌, arith}
use Rattle.std.proofs.lemmas.List.{length-reverse, length-take, reverse-append, reverse-reverse, take_more}
use Rattle.typst_parser.specs.Events.{bytes}
use Rattle.typst_parser.specs.Spans.{children_of, span}
use Rattle.typst_parser.specs.declared.event.Event.{Event}
use Rattle.typst_parser.proofs.Heights.{but_last-reverse, bytes-reverse, last_some-reverse}

pub reverse-push : {X : Type 0} (xs : List X) (x : X) → reverse (xs ++ x ∷ []) ≡ x ∷ reverse xs
reverse-push xs x = reverse-append xs (x ∷ [])

pub span_some : (n : ℕ) (e : Event) (back : List Event) → 0 < n → span n (e ∷ back) ≡ suc (span (min (n - 1 + children_of e) (length back)) back)
span_some zero e back some = absurd (omega arith)
span_some (suc n) e back some = let same : n ≡ suc n - 1 = omega arith in ap (λ k. suc (span (min (k + children_of e) (length back)) back)) same

-- one event further back
pub span_next : (all : List Event) (left need next : ℕ) (d : Event) → left < length all → 0 < need → next ≡ min (need - 1 + children_of (get_or all left d)) left
    → span need (reverse (take (left + 1) all)) ≡ suc (span next (reverse (take left all)))
span_next all left need next d within some is =
    let back : List Event = reverse (take left all) in
    let count : length back ≡ left = length-reverse (take left all) ∙ length-take left all ∙ (let short : min left (length all) ≡ left = omega arith in short) in
    ap (span need) (ap reverse (take_more all left d within) ∙ reverse-push (take left all) (get_or all left d))
    ∙ span_some need (get_or all left d) back some
    ∙ ap (λ k. suc (span (min (need - 1 + children_of (get_or all left d)) k) back)) count
    ∙ ap (λ k. suc (span k back)) (sym is)

-- the events that are left make the trees that are needed
pub span_step : (all : List Event) (left need next whole children : ℕ) (d : Event) → 0 < left → left ≤ length all → 0 < need → children ≡ children_of (get_or all (left - 1) d)
    → next ≡ min (need - 1 + children) (left - 1)
    → length all - left + span need (reverse (take left all)) ≡ whole → length all - (left - 1) + span next (reverse (take (left - 1) all)) ≡ whole
span_step all left need next whole children d some within needs children_is is so_far =
    let same : left - 1 + 1 ≡ left = omega arith in
    let one : span need (reverse (take left all)) ≡ suc (span next (reverse (take (left - 1) all))) =
    sym (ap (λ n. span need (reverse (take n all))) same) ∙ span_next all (left - 1) need next d (omega arith) needs (is ∙ ap (λ n. min (need - 1 + n) (left - 1)) children_is) in
    omega (arith, one, so_far)

pub span_none : (n : ℕ) → span n [] ≡ 0
span_none zero = refl
span_none (suc n) = refl

-- one map more on top of others
pub maps_next : {X : Type 0} (xs ys : List X) (x : X) (k : ℕ) (more : List X) → 1 ≤ k → ys ≡ xs ++ x ∷ [] → reverse xs ≡ replicate (k - 1) x ++ more
    → reverse ys ≡ replicate (k + 1 - 1) x ++ more
maps_next xs ys x k more some is so_far =
    let one : suc (k - 1) ≡ k + 1 - 1 = omega arith in
    ap reverse is ∙ reverse-push xs x ∙ ap (λ zs. x ∷ zs) so_far ∙ ap (λ n. replicate n x ++ more) one

-- the bytes of the last events
pub last_bytes : (n : ℕ) (es : List Event) → bytes (drop (length es - n) es) ≡ bytes (take n (reverse es))
last_bytes n es =
    ap (λ fs. bytes (drop (length fs - n) fs)) (sym (reverse-reverse es)) ∙ ap bytes (last_some-reverse n (reverse es)) ∙ bytes-reverse (take n (reverse es))

-- all events but the last ones
pub reverse-but_last : {X : Type 0} (n : ℕ) (xs : List X) → reverse (take (length xs - n) xs) ≡ drop n (reverse xs)
reverse-but_last n xs =
    ap (λ ys. reverse (take (length ys - n) ys)) (sym (reverse-reverse xs)) ∙ ap reverse (but_last-reverse n (reverse xs)) ∙ reverse-reverse (drop n (reverse xs))
