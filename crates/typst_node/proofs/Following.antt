-- Numbers that rise, following them, and the numbers of lists of trees.
use Rattle.std.proofs.Common.{◌≡◌, ℕ, suc, zero, ◌+◌, ◌-◌, ◌<◌, ◌≤◌, Bool, true, false, ◌==◌, List, [], ◌∷◌, ◌++◌, length, map, set, take, get_or, refl, sym, ap, ◌∙◌, arith, eq-eqb, append_assoc, append-nil, Some, None}
use Rattle.std.specs.Prelude.{if◌then◌else◌, ◌&&◌}
use Rattle.std.specs.Ordering.{is_le, is_lt, nat_cmp}
use Rattle.std.specs.declared.ops.Range.{Range}
use Rattle.std.proofs.lemmas.Bool.Decides.{nat_tests}
use Rattle.std.specs.List.{AllByRecursion, position_or_len}
use Rattle.std.proofs.lemmas.Bool.{eqb-true}
use Rattle.std.proofs.lemmas.Grind.{get_or_default_zero}
use Rattle.std.proofs.lemmas.List.{get_or_past, length-map, length-set, map-append, take_more, take_more_set}
use Rattle.std.proofs.lemmas.List.Sums.{position_or_len_is}
use Rattle.std.proofs.lemmas.Slice.{take-put_mid}
use borrow.Rule.Slice.PartMut.{put_mid}
use Rattle.typst_node.specs.Tree.{Tree, trees, forest}
use Rattle.typst_node.specs.Preorder.{preorder}
use Rattle.typst_node.specs.Labels.{number}
use Rattle.typst_node.specs.Count.{count, count_of_all}
use Rattle.typst_node.specs.Numbered.{Rise}
use Rattle.typst_node.specs.Moves.{NumberMoves, numbers, is_within, followed}
use Rattle.typst_node.proofs.Trees.{forest-trees, count_of_all-cons}
use Rattle.typst_node.proofs.Opens.{count_append}
use Rattle.typst_node.proofs.Settled.{preorder_append}

all_at : (x : ℕ) (xs : List ℕ) → AllByRecursion (λ y. x < y) xs → (i : ℕ) → i < length xs → x < get_or xs i 0
all_at x [] h i k = absurd (omega arith)
all_at x (y ∷ ys) h zero k = h.0
all_at x (y ∷ ys) h (suc i) k = all_at x ys h.1 i (omega arith)

-- the numbers of a list that rises, by their places
pub rise_at : (xs : List ℕ) → Rise xs → (i j : ℕ) → i < j → j < length xs → get_or xs i 0 < get_or xs j 0
rise_at [] h i j k n = absurd (omega arith)
rise_at (x ∷ xs) h i zero k n = absurd (omega arith)
rise_at (x ∷ xs) h zero (suc j) k n = all_at x xs h.0 j (omega arith)
rise_at (x ∷ xs) h (suc i) (suc j) k n = rise_at xs h.1 i j (omega arith) (omega arith)

pub rise_le : (xs : List ℕ) → Rise xs → (i j : ℕ) → i ≤ j → j < length xs → get_or xs i 0 ≤ get_or xs j 0
rise_le [] h i j k n = absurd (omega arith)
rise_le (x ∷ xs) h zero zero k n = omega arith
rise_le (x ∷ xs) h zero (suc j) k n = let e = all_at x xs h.0 j (omega arith) in omega arith
rise_le (x ∷ xs) h (suc i) zero k n = absurd (omega arith)
rise_le (x ∷ xs) h (suc i) (suc j) k n = rise_le xs h.1 i j (omega arith) (omega arith)

differ_by : (a b : ℕ) → ¬ (a ≡ b) → (t : Bool) → (a == b) ≡ t → (a == b) ≡ false
differ_by a b n true e = absurd (n (eqb-true a b e))
differ_by a b n false e = e

differ : (a b : ℕ) → ¬ (a ≡ b) → (a == b) ≡ false
differ a b n = differ_by a b n (a == b) refl

-- the place of a number in a list that rises
pub place_found : (xs : List ℕ) (i x : ℕ) → Rise xs → i < length xs → get_or xs i 0 ≡ x → position_or_len (λ y. y == x) xs ≡ i
place_found xs i x rise h is =
    position_or_len_is (λ y. y == x) xs i 0 (omega arith)
    (λ k below. differ (get_or xs k 0) x (λ same. let less = rise_at xs rise k i below h in omega arith))
    (λ _. eq-eqb (get_or xs i 0) x is)

-- a number that isn't in the list has no place
pub no_place : (xs : List ℕ) (x : ℕ) → ((i : ℕ) → i < length xs → ¬ (get_or xs i 0 ≡ x)) → position_or_len (λ y. y == x) xs ≡ length xs
no_place xs x none =
    position_or_len_is (λ y. y == x) xs (length xs) 0 (omega arith)
    (λ k below. differ (get_or xs k 0) x (none k below))
    (λ h. absurd (omega arith))

-- the test of a range, as `contains` makes it
pub test_is : (r : Range ℕ) (n : ℕ) → (is_le (nat_cmp r.start n) && is_lt (nat_cmp n r.end)) ≡ is_within r n
test_is r n = grind (arith, nat_tests)

outside : (m : NumberMoves) (n : ℕ) → is_within m.gone n ≡ false → followed m n ≡ Some (get_or m.news (position_or_len (λ x. x == n) m.olds) n)
outside m n out = ap (λ b. if b then None else Some (get_or m.news (position_or_len (λ x. x == n) m.olds) n)) out

-- what follows from a number that is listed, from one that isn't, and from one that is gone
pub followed_listed : (m : NumberMoves) (n i x : ℕ) → is_within m.gone n ≡ false → Rise m.olds → i < length m.olds → get_or m.olds i 0 ≡ n → length m.news ≡ length m.olds → get_or m.news i 0 ≡ x → followed m n ≡ Some x
followed_listed m n i x out rise there is many new =
    let inside : i < length m.news = omega arith in
    outside m n out ∙ ap Some (ap (λ k. get_or m.news k n) (place_found m.olds i n rise there is) ∙ (get_or_default_zero m.news i n inside ∙ new))

pub followed_other : (m : NumberMoves) (n : ℕ) → is_within m.gone n ≡ false → length m.news ≡ length m.olds → ((i : ℕ) → i < length m.olds → ¬ (get_or m.olds i 0 ≡ n)) → followed m n ≡ Some n
followed_other m n out many none =
    outside m n out ∙ ap Some (ap (λ k. get_or m.news k n) (no_place m.olds n none) ∙ get_or_past m.news (length m.olds) n (omega arith))

pub followed_gone : (m : NumberMoves) (n : ℕ) → is_within m.gone n ≡ true → followed m n ≡ None
followed_gone m n in_gone = ap (λ b. if b then None else Some (get_or m.news (position_or_len (λ x. x == n) m.olds) n)) in_gone

-- ---- the numbers of lists of trees
pub numbers_append : (ts us : List Tree) → numbers (ts ++ us) ≡ numbers ts ++ numbers us
numbers_append ts us = ap (map number) (preorder_append ts us) ∙ map-append number (preorder (forest ts)) (preorder (forest us))

pub length_numbers : (ts : List Tree) → length (numbers ts) ≡ count_of_all ts
length_numbers ts = length-map (preorder (forest ts)) number

numbers_one : (t : Tree) → numbers (t ∷ []) ≡ number t.label ∷ numbers (trees t.children)
numbers_one t = ap (λ ls. number t.label ∷ map number ls) (append-nil (preorder t.children) ∙ ap preorder (sym (forest-trees t.children)))

pub numbers_next : (ts : List Tree) (i : ℕ) (t : Tree) → i < length ts → t ≡ get_or ts i t → numbers (take (i + 1) ts) ≡ numbers (take i ts) ++ (number t.label ∷ numbers (trees t.children))
numbers_next ts i t h is =
    ap numbers (take_more ts i t h) ∙ (numbers_append (take i ts) (get_or ts i t ∷ []) ∙ ap (λ u. numbers (take i ts) ++ numbers (u ∷ [])) (sym is) ∙ ap (λ xs. numbers (take i ts) ++ xs) (numbers_one t))

count_one : (t : Tree) → count_of_all (t ∷ []) ≡ count t
count_one t = omega (arith, count_of_all-cons t [])

pub count_next : (ts : List Tree) (i : ℕ) (t : Tree) → i < length ts → t ≡ get_or ts i t → count_of_all (take (i + 1) ts) ≡ count_of_all (take i ts) + count t
count_next ts i t h is =
    ap count_of_all (take_more ts i t h) ∙ (count_append (take i ts) (get_or ts i t ∷ []) ∙ ap (λ u. count_of_all (take i ts) + count_of_all (u ∷ [])) (sym is) ∙ ap (λ n. count_of_all (take i ts) + n) (count_one t))

-- a number and those of the children, written at a place
pub written : (out : List ℕ) (at end n : ℕ) (ys : List ℕ) → at < length out → end ≡ at + 1 + length ys → take end (put_mid (at + 1) (end - (at + 1)) (set out at n) ys) ≡ take at out ++ (n ∷ ys)
written out at end n ys there is =
    take-put_mid (at + 1) (end - (at + 1)) (set out at n) ys end is (omega (arith, length-set out at n))
    ∙ (ap (λ xs. xs ++ ys) (take_more_set out at n there) ∙ append_assoc (take at out) (n ∷ []) ys)
