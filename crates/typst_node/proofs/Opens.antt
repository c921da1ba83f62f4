-- Open numbers before and after trees, and counts of parts.
use Rattle.std.proofs.Common.{◌≡◌, ℕ, suc, zero, ◌+◌, ◌-◌, ◌*◌, ◌^◌, ◌<◌, ◌≤◌, List, [], ◌∷◌, ◌++◌, length, take, drop, min, get_or, refl, sym, ap, ◌∙◌, arith}
use Rattle.std.proofs.lemmas.List.{take-append-drop}
use Rattle.std.proofs.lemmas.List.Folds.{drop_split}
use Rattle.std.specs.Prelude.{slice_range}
use Rattle.std.specs.List.{splice}
use Rattle.std.proofs.Math.Seq.{take-nil, drop-nil, take-add}
use Rattle.typst_node.specs.Tree.{Tree}
use Rattle.typst_node.specs.Count.{count_of_all}
use Rattle.typst_node.specs.Text.{text_of_all}
use Rattle.typst_node.specs.Labels.{bound}
use Rattle.typst_node.specs.OpenNumbers.{open_from}
use Rattle.typst_node.specs.Window.{Site, width, trees_in}
use Rattle.typst_node.specs.Room.{new_count}
use Rattle.typst_node.proofs.Trees.{count_of_all-cons, length-text_of_all-cons}

pub open_from_last : (a : ℕ) (ts : List Tree) (d : Tree) → 0 < length ts → open_from a ts ≡ bound (get_or ts (length ts - 1) d).label
open_from_last a [] d h = absurd (omega arith)
open_from_last a (t ∷ []) d h = refl
open_from_last a (t ∷ (u ∷ us)) d h =
    let at : length (t ∷ (u ∷ us)) - 1 ≡ suc (length us) = omega arith in
    let rest : open_from (bound t.label) (u ∷ us) ≡ bound (get_or (u ∷ us) (length (u ∷ us) - 1) d).label = open_from_last (bound t.label) (u ∷ us) d (omega arith) in
    let place : length (u ∷ us) - 1 ≡ length us = omega arith in
    rest ∙ (ap (λ n. bound (get_or (u ∷ us) n d).label) place ∙ sym (ap (λ n. bound (get_or (t ∷ (u ∷ us)) n d).label) at))

pub count_append : (ts us : List Tree) → count_of_all (ts ++ us) ≡ count_of_all ts + count_of_all us
count_append [] us = omega arith
count_append (t ∷ ts) us = omega (arith, count_of_all-cons t (ts ++ us), count_of_all-cons t ts, count_append ts us)

pub count_split : (i : ℕ) (ts : List Tree) → count_of_all (take i ts) + count_of_all (drop i ts) ≡ count_of_all ts
count_split i ts = sym (count_append (take i ts) (drop i ts)) ∙ ap count_of_all (take-append-drop i ts)

-- the counts of the parts of a window
pub count_in : (s : Site) (w : ℕ) → count_of_all (trees_in s w) ≡ count_of_all (drop (length s.before - w) s.before) + count_of_all s.changed + count_of_all (take w s.behind)
count_in s w = omega (arith, count_append (drop (length s.before - w) s.before) (s.changed ++ take w s.behind), count_append s.changed (take w s.behind))

pub count_new : (s : Site) → new_count s ≡ suc (count_of_all s.before + (count_of_all s.changed + count_of_all s.behind))
count_new s = ap suc (count_append s.before (s.changed ++ s.behind) ∙ ap (λ n. count_of_all s.before + n) (count_append s.changed s.behind))

suc_min : (a b : ℕ) → min (suc a) (suc b) ≡ suc (min a b)
suc_min a b = omega arith

drop_nothing : {X : Type 0} (n : ℕ) (xs : List X) → n ≡ 0 → drop n xs ≡ xs
drop_nothing n xs e = ap (λ m. drop m xs) e

take_nothing : {X : Type 0} (n : ℕ) (xs : List X) → n ≡ 0 → take n xs ≡ []
take_nothing n xs e = ap (λ m. take m xs) e

pub take_min : {X : Type 0} (w : ℕ) (xs : List X) → take (min w (length xs)) xs ≡ take w xs
take_min w [] = take-nil _ ∙ sym (take-nil w)
take_min zero (x ∷ xs) = take_nothing _ (x ∷ xs) (omega arith)
take_min (suc w) (x ∷ xs) = ap (λ n. take n (x ∷ xs)) (suc_min w (length xs)) ∙ ap (λ ys. x ∷ ys) (take_min w xs)

pub drop_min : {X : Type 0} (w : ℕ) (xs : List X) → drop (min w (length xs)) xs ≡ drop w xs
drop_min w [] = drop-nil _ ∙ sym (drop-nil w)
drop_min zero (x ∷ xs) = drop_nothing _ (x ∷ xs) (omega arith)
drop_min (suc w) (x ∷ xs) = ap (λ n. drop n (x ∷ xs)) (suc_min w (length xs)) ∙ drop_min w xs

-- what is counted for a window
pub counted : (s : Site) (w from to n m : ℕ) → from ≡ length s.before - w → to ≡ min w (length s.behind) → n ≡ count_of_all (drop from s.before) → m ≡ count_of_all (take to s.behind) → n + count_of_all s.changed + m ≡ count_of_all (trees_in s w)
counted s w from to n m from_is to_is n_is m_is =
    let one : n ≡ count_of_all (drop (length s.before - w) s.before) = n_is ∙ ap (λ k. count_of_all (drop k s.before)) from_is in
    let two : m ≡ count_of_all (take w s.behind) = m_is ∙ (ap (λ k. count_of_all (take k s.behind)) to_is ∙ ap count_of_all (take_min w s.behind)) in
    omega (arith, count_in s w)

pub fewer_in : (s : Site) (w : ℕ) → count_of_all (trees_in s w) < new_count s
fewer_in s w = omega (arith, count_in s w, count_new s, count_split (length s.before - w) s.before, count_split w s.behind)

-- what a wider window gains, by counts that are right below the limit
pub gained : (s : Site) (w next a b c d n m : ℕ) → w ≤ next → new_count s < 2 ^ 64 → a ≡ length s.before - next → b ≡ length s.before - w → c ≡ min w (length s.behind) → d ≡ min next (length s.behind)
    → (count_of_all (slice_range s.before a b) < 2 ^ 64 → n ≡ count_of_all (slice_range s.before a b)) → (count_of_all (slice_range s.behind c d) < 2 ^ 64 → m ≡ count_of_all (slice_range s.behind c d))
    → count_of_all (trees_in s w) + (n + m) ≡ count_of_all (trees_in s next)
gained s w next a b c d n m wider few a_is b_is c_is d_is n_counted m_counted =
    let n_is = n_counted (omega (arith, few, count_new s, count_split a s.before, count_split (b - a) (drop a s.before))) in
    let m_is = m_counted (omega (arith, few, count_new s, count_split c s.behind, count_split (d - c) (drop c s.behind))) in
    let ahead : count_of_all (drop a s.before) ≡ n + count_of_all (drop b s.before) =
    ap count_of_all (drop_split s.before a b (omega arith)) ∙ (count_append (slice_range s.before a b) (drop b s.before) ∙ ap (λ k. k + count_of_all (drop b s.before)) (sym n_is)) in
    let many : c + (d - c) ≡ d = omega arith in
    let back : count_of_all (take d s.behind) ≡ count_of_all (take c s.behind) + m =
    ap (λ k. count_of_all (take k s.behind)) (sym many) ∙ (ap count_of_all (take-add c (d - c) s.behind)
    ∙ (count_append (take c s.behind) (slice_range s.behind c d) ∙ ap (λ k. count_of_all (take c s.behind) + k) (sym m_is))) in
    let a_same : count_of_all (drop a s.before) ≡ count_of_all (drop (length s.before - next) s.before) = ap (λ k. count_of_all (drop k s.before)) a_is in
    let b_same : count_of_all (drop b s.before) ≡ count_of_all (drop (length s.before - w) s.before) = ap (λ k. count_of_all (drop k s.before)) b_is in
    let c_same : count_of_all (take c s.behind) ≡ count_of_all (take w s.behind) = ap (λ k. count_of_all (take k s.behind)) c_is ∙ ap count_of_all (take_min w s.behind) in
    let d_same : count_of_all (take d s.behind) ≡ count_of_all (take next s.behind) = ap (λ k. count_of_all (take k s.behind)) d_is ∙ ap count_of_all (take_min next s.behind) in
    omega (arith, count_in s w, count_in s next)

-- the widths 0, 1, 2, 4 and so on
positive_power : (k : ℕ) → 0 < 2 ^ k
positive_power zero = omega arith
positive_power (suc k) = grind (arith, positive_power k)

-- the next width
pub width_next : (t w r : ℕ) → 1 ≤ t → w ≡ width (t - 1) → (w ≡ 0 → r ≡ 1) → (0 < w → r ≡ 2 * w) → r ≡ width t
width_next zero w r h e z m = absurd (omega arith)
width_next (suc zero) w r h e z m = z (e ∙ ap width (let q : suc zero - 1 ≡ zero = omega arith in q))
width_next (suc (suc k)) w r h e z m =
    let p : w ≡ 2 ^ k = e ∙ ap width (let q : suc (suc k) - 1 ≡ suc k = omega arith in q) in
    let twice : r ≡ 2 * w = m (omega (arith, positive_power k)) in
    twice ∙ rw p (grind arith)

-- an added measure of a list with others in the place of a part
pub splice_measure : (m : List Tree → ℕ) → ((ts us : List Tree) → m (ts ++ us) ≡ m ts + m us) → (ts us : List Tree) (a b : ℕ) → a ≤ b → m (splice ts a b us) + m (slice_range ts a b) ≡ m ts + m us
splice_measure m add ts us a b h =
    let whole : m (take a ts) + m (drop a ts) ≡ m ts = sym (add (take a ts) (drop a ts)) ∙ ap m (take-append-drop a ts) in
    let rest : m (drop a ts) ≡ m (slice_range ts a b) + m (drop b ts) = ap m (drop_split ts a b h) ∙ add (slice_range ts a b) (drop b ts) in
    omega (arith, add (take a ts) (us ++ drop b ts), add us (drop b ts))

pub length_text_append : (ts us : List Tree) → length (text_of_all (ts ++ us)) ≡ length (text_of_all ts) + length (text_of_all us)
length_text_append [] us = omega arith
length_text_append (t ∷ ts) us = omega (arith, length-text_of_all-cons t (ts ++ us), length-text_of_all-cons t ts, length_text_append ts us)

pub splice_count : (ts us : List Tree) (a b : ℕ) → a ≤ b → count_of_all (splice ts a b us) + count_of_all (slice_range ts a b) ≡ count_of_all ts + count_of_all us
splice_count ts us a b h = splice_measure count_of_all count_append ts us a b h

pub splice_text : (ts us : List Tree) (a b : ℕ) → a ≤ b → length (text_of_all (splice ts a b us)) + length (text_of_all (slice_range ts a b)) ≡ length (text_of_all ts) + length (text_of_all us)
splice_text ts us a b h = splice_measure (λ vs. length (text_of_all vs)) length_text_append ts us a b h

pub part_count : (ts : List Tree) (a b : ℕ) → a ≤ b → count_of_all (slice_range ts a b) ≤ count_of_all ts
part_count ts a b h = omega (arith, count_split a ts, ap count_of_all (drop_split ts a b h), count_append (slice_range ts a b) (drop b ts))

pub part_text : (ts : List Tree) (a b : ℕ) → a ≤ b → length (text_of_all (slice_range ts a b)) ≤ length (text_of_all ts)
part_text ts a b h =
    let whole : length (text_of_all (take a ts)) + length (text_of_all (drop a ts)) ≡ length (text_of_all ts) = sym (length_text_append (take a ts) (drop a ts)) ∙ ap (λ vs. length (text_of_all vs)) (take-append-drop a ts) in
    let rest : length (text_of_all (drop a ts)) ≡ length (text_of_all (slice_range ts a b)) + length (text_of_all (drop b ts)) = ap (λ vs. length (text_of_all vs)) (drop_split ts a b h) ∙ length_text_append (slice_range ts a b) (drop b ts) in
    omega arith
