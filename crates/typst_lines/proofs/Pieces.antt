-- A list of numbers that is written in its middle and moved after it.
use Rattle.std.proofs.Common.{◌≡◌, ℕ, ◌+◌, ◌-◌, ◌<◌, ◌≤◌, List, [], ◌∷◌, ◌++◌, length, map, get_or, set, take, drop, ap, sym, ◌∙◌, arith, ⊎_elim, length-append, length-drop}
use Rattle.std.proofs.lemmas.List.{append_assoc, set_at, drop_more, get_or_append_left, get_or-append_right, get_or-take, get_or-drop, get_or-map, ext_get_or, length-take-le, length-map, take_at, drop_at, take-append-drop, drop-drop, take_rest}
use Rattle.std.specs.List.{slice_range}
use Rattle.std.proofs.lemmas.Bool.{cases_lt}

-- the next place is written
pub written_next : (front old : List ℕ) (count at : ℕ) → length front ≡ count → count < length old → set (front ++ drop count old) count at ≡ (front ++ at ∷ []) ++ drop (count + 1) old
written_next front old count at e less =
    ap (λ l. set (front ++ l) count at) (drop_more old count 0 less)
    ∙ set_at front (get_or old count 0) (drop (count + 1) old) at count e
    ∙ sym (append_assoc front (at ∷ []) (drop (count + 1) old))

pub moved_at : (f : ℕ → ℕ) (old : List ℕ) (first i : ℕ) → first ≤ length old → first ≤ i → i < length old → get_or (take first old ++ map f (drop first old)) i 0 ≡ f (get_or old i 0)
moved_at f old first i le low less =
    let len = length-take-le first old le in
    let within : i - first < length (drop first old) = omega (arith, length-drop first old) in
    let e : first + (i - first) ≡ i = omega arith in
    get_or-append_right (take first old) (map f (drop first old)) first i 0 len low
    ∙ get_or-map f (drop first old) (i - first) 0 0 within
    ∙ ap f (get_or-drop first old (i - first) 0 ∙ ap (λ j. get_or old j 0) e)

pub kept_at : (f : ℕ → ℕ) (old : List ℕ) (first i : ℕ) → first ≤ length old → i < first → get_or (take first old ++ map f (drop first old)) i 0 ≡ get_or old i 0
kept_at f old first i le less =
    let len = length-take-le first old le in
    let within : i < length (take first old) = omega arith in
    get_or_append_left (take first old) (map f (drop first old)) 0 i within ∙ get_or-take first old i 0 less

-- those from one place on are moved
pub moved_from : (f : ℕ → ℕ) (old new : List ℕ) (first : ℕ) → first ≤ length old → length new ≡ length old → ((k : ℕ) → k < first → get_or new k 0 ≡ get_or old k 0) → ((k : ℕ) → first ≤ k → k < length old → get_or new k 0 ≡ f (get_or old k 0)) → new ≡ take first old ++ map f (drop first old)
moved_from f old new first le same before behind =
    let len = length-take-le first old le in
    let long : length new ≡ length (take first old ++ map f (drop first old)) = omega (arith, length-append (take first old) (map f (drop first old)), length-map (drop first old) f, length-drop first old) in
    ext_get_or 0 new (take first old ++ map f (drop first old)) long (λ i l.
    let l' : i < length old = omega arith in
    ⊎_elim
    (λ less. before i less ∙ sym (kept_at f old first i le less))
    (λ low. behind i low l' ∙ sym (moved_at f old first i le low l'))
    (cases_lt i first))

-- ---- a list in three pieces
pub record InThree (a b old : List ℕ) (first last : ℕ) : Type 0 where
  pub front : take first old ≡ a
  pub behind : drop last old ≡ b
  pub window : first ≤ last
  pub inside : last ≤ length old

pub in_three : (a o b old : List ℕ) (first last : ℕ) → old ≡ a ++ (o ++ b) → first ≡ length a → last ≡ length (a ++ o) → InThree a b old first last
in_three a o b old first last e ef el = record {
  front = ap (take first) e ∙ take_at a (o ++ b) first (sym ef);
  behind = ap (drop last) (e ∙ sym (append_assoc a o b)) ∙ drop_at (a ++ o) b last (sym el);
  window = omega (arith, length-append a o);
  inside = omega (arith, ap (λ l. length l) (e ∙ sym (append_assoc a o b)), length-append (a ++ o) b);
}

-- what comes after a middle that is written anew stays, and is moved
pub exchanged : (f : ℕ → ℕ) (a m b written new : List ℕ) (n : ℕ) → written ≡ (a ++ m) ++ b → n ≡ length a + length m → new ≡ take n written ++ map f (drop n written) → new ≡ a ++ (m ++ map f b)
exchanged f a m b written new n ew en e =
    let long : length (a ++ m) ≡ n = omega (arith, length-append a m) in
    e ∙ ap (λ x. take n x ++ map f (drop n x)) ew
    ∙ ap (λ x. x ++ map f (drop n ((a ++ m) ++ b))) (take_at (a ++ m) b n long)
    ∙ ap (λ x. (a ++ m) ++ map f x) (drop_at (a ++ m) b n long)
    ∙ append_assoc a m (map f b)

-- a list cut at two places
pub in_pieces : (xs : List ℕ) (i j : ℕ) → i ≤ j → take i xs ++ (slice_range xs i j ++ drop j xs) ≡ xs
in_pieces xs i j le =
    let e : i + (j - i) ≡ j = omega arith in
    ap (λ l. take i xs ++ (slice_range xs i j ++ l)) (ap (λ k. drop k xs) (sym e) ∙ sym (drop-drop (j - i) i xs))
    ∙ ap (λ l. take i xs ++ l) (take-append-drop (j - i) (drop i xs)) ∙ take-append-drop i xs

pub in_parts : (xs : List ℕ) (i j : ℕ) → i ≤ j → take i xs ++ (slice_range xs i j ++ slice_range xs j (length xs)) ≡ xs
in_parts xs i j le = ap (λ l. take i xs ++ (slice_range xs i j ++ l)) (take_rest xs j) ∙ in_pieces xs i j le
