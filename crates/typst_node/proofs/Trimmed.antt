-- Common beginnings and endings, and what is left without them.
use Rattle.std.proofs.Common.{◌≡◌, ℕ, suc, zero, ◌+◌, ◌-◌, ◌<◌, ◌≤◌, Bool, true, false, cond, List, [], ◌∷◌, ◌++◌, length, min, map, take, drop, get_or, reverse, refl, sym, ap, subst, ◌∙◌, arith, add-one, drop-cons, append_assoc, length-take, length-drop}
use Rattle.std.proofs.lemmas.List.{length-reverse, drop-take, take-take, drop-drop, reverse-reverse, take-append-drop, map-append, reverse-append, take_at}
use Rattle.std.proofs.lemmas.List.Folds.{drop_split}
use Rattle.std.specs.Prelude.{slice_range}
use Rattle.std.specs.List.{splice}
use Rattle.typst_node.specs.Tree.{Tree}
use Rattle.typst_node.specs.Count.{SumsFit}
use Rattle.typst_node.specs.Growth.{GrowWithin}
use Rattle.typst_node.specs.Plain.{plain}
use Rattle.typst_node.specs.declared.node.replace.Growth.{Growth}
use Rattle.typst_node.specs.Equal.{tree_eq, tree_same, tree_eq_same}
use Rattle.typst_node.specs.ChangedChildren.{IsCommonBeginning, StaysLongest, common_first, common_last, kept_first, kept_last}
use Rattle.typst_node.proofs.Plain.{same_text_of_all, same_count_of_all}

not_true : (b : Bool) → ¬ (b ≡ true) → b ≡ false
not_true true n = absurd (n refl)
not_true false n = refl

-- one more where it is so, and else none
abbrev one_more_if : Bool → ℕ → ℕ
one_more_if b n = cond b (1 + n) 0

one_plus : (n : ℕ) → 1 + n ≡ suc n
one_plus n = omega arith

one_within : (b : Bool) (n m : ℕ) → n ≤ m → one_more_if b n ≤ suc m
one_within true n m h = omega arith
one_within false n m h = omega arith

pub first_within : (ts us : List Tree) → common_first ts us ≤ length ts
first_within [] us = omega arith
first_within (t ∷ ts) [] = omega arith
first_within (t ∷ ts) (u ∷ us) = one_within (tree_eq (plain t) (plain u)) (common_first ts us) (length ts) (first_within ts us)

pub first_within_others : (ts us : List Tree) → common_first ts us ≤ length us
first_within_others [] us = omega arith
first_within_others (t ∷ ts) [] = omega arith
first_within_others (t ∷ ts) (u ∷ us) = one_within (tree_eq (plain t) (plain u)) (common_first ts us) (length us) (first_within_others ts us)

-- the common beginning is the same, apart from spans and bounds
first_alike_at : (t u : Tree) (ts us : List Tree) (b : Bool) → tree_eq (plain t) (plain u) ≡ b → map plain (take (common_first ts us) ts) ≡ map plain (take (common_first ts us) us)
    → map plain (take (one_more_if b (common_first ts us)) (t ∷ ts)) ≡ map plain (take (one_more_if b (common_first ts us)) (u ∷ us))
first_alike_at t u ts us true e h =
    let first : plain t ≡ plain u = tree_same (plain t) (plain u) e in
    subst (λ (m : ℕ). map plain (take m (t ∷ ts)) ≡ map plain (take m (u ∷ us))) (sym (one_plus (common_first ts us))) (λ i. first i ∷ h i)
first_alike_at t u ts us false e h = refl

pub first_alike : (ts us : List Tree) → map plain (take (common_first ts us) ts) ≡ map plain (take (common_first ts us) us)
first_alike [] us = refl
first_alike (t ∷ ts) [] = refl
first_alike (t ∷ ts) (u ∷ us) = first_alike_at t u ts us (tree_eq (plain t) (plain u)) refl (first_alike ts us)

-- a step along the common beginning
pub first_more : (t u : Tree) (ts us : List Tree) → plain t ≡ plain u → common_first (t ∷ ts) (u ∷ us) ≡ suc (common_first ts us)
first_more t u ts us e = ap (λ b. one_more_if b (common_first ts us)) (tree_eq_same (plain t) (plain u) e) ∙ one_plus (common_first ts us)

-- no longer beginning is common
pub first_longest : (ts us : List Tree) (n : ℕ) → n ≤ length ts → n ≤ length us → map plain (take n ts) ≡ map plain (take n us) → n ≤ common_first ts us
first_longest ts us zero h k e = omega arith
first_longest [] us (suc n) h k e = absurd (omega arith)
first_longest (t ∷ ts) [] (suc n) h k e = absurd (omega arith)
first_longest (t ∷ ts) (u ∷ us) (suc n) h k e =
    let first : plain t ≡ plain u = cc in
    omega (arith, first_longest ts us n (omega arith) (omega arith) (cc), first_more t u ts us first)

pub first_ends : (t u : Tree) (ts us : List Tree) → ¬ (plain t ≡ plain u) → common_first (t ∷ ts) (u ∷ us) ≡ 0
first_ends t u ts us n = ap (λ b. one_more_if b (common_first ts us)) (not_true (tree_eq (plain t) (plain u)) (λ e. n (tree_same (plain t) (plain u) e)))

pub common_first_is : (ts us : List Tree) → IsCommonBeginning ts us (common_first ts us)
common_first_is ts us =
    record { within = first_within ts us; within_others = first_within_others ts us; alike = first_alike ts us; longest = first_longest ts us }

-- so what stays of changed children is the longest
pub stays_longest : (from to : ℕ) (others ts : List Tree) → StaysLongest from to others ts
stays_longest from to others ts =
    record {
      first = common_first_is (slice_range ts from to) others;
      last = common_first_is (reverse (slice_range ts (from + kept_first from to others ts) to)) (reverse (drop (kept_first from to others ts) others));
    }

drop_step : (ts : List Tree) (i : ℕ) (d : Tree) → i < length ts → drop i ts ≡ get_or ts i d ∷ drop (i + 1) ts
drop_step ts i d h = rw add-one (drop-cons ts i d h)

-- at a place of two lists
pub first_step : (ts us : List Tree) (i : ℕ) (d e : Tree) → i < length ts → i < length us → plain (get_or ts i d) ≡ plain (get_or us i e) → i + common_first (drop i ts) (drop i us) ≡ i + 1 + common_first (drop (i + 1) ts) (drop (i + 1) us)
first_step ts us i d e h k same =
    let is : common_first (drop i ts) (drop i us) ≡ common_first (get_or ts i d ∷ drop (i + 1) ts) (get_or us i e ∷ drop (i + 1) us) = λ j. common_first (drop_step ts i d h j) (drop_step us i e k j) in
    omega (arith, is, first_more (get_or ts i d) (get_or us i e) (drop (i + 1) ts) (drop (i + 1) us) same)

pub first_stop : (ts us : List Tree) (i : ℕ) (d e : Tree) → i < length ts → i < length us → ¬ (plain (get_or ts i d) ≡ plain (get_or us i e)) → i + common_first (drop i ts) (drop i us) ≡ i
first_stop ts us i d e h k differ =
    let is : common_first (drop i ts) (drop i us) ≡ common_first (get_or ts i d ∷ drop (i + 1) ts) (get_or us i e ∷ drop (i + 1) us) = λ j. common_first (drop_step ts i d h j) (drop_step us i e k j) in
    omega (arith, is, first_ends (get_or ts i d) (get_or us i e) (drop (i + 1) ts) (drop (i + 1) us) differ)

pub first_done : (ts us : List Tree) (i : ℕ) → i ≤ length ts → i ≤ length us → min (length ts) (length us) ≤ i → i + common_first (drop i ts) (drop i us) ≡ i
first_done ts us i h k m = omega (arith, first_within (drop i ts) (drop i us), first_within_others (drop i ts) (drop i us), length-drop i ts, length-drop i us)

-- what is left without the common beginning and ending
pub drop_slice : {X : Type 0} (xs : List X) (c b k : ℕ) → c + k ≤ b → drop k (slice_range xs c b) ≡ slice_range xs (c + k) b
drop_slice xs c b k h =
    let many : b - c ≡ k + (b - (c + k)) = omega arith in
    ap (λ n. drop k (take n (drop c xs))) many ∙ (drop-take k (b - (c + k)) (drop c xs) ∙ ap (take (b - (c + k))) (drop-drop k c xs))

take_add : {X : Type 0} (a p : ℕ) (xs : List X) → take (a + p) xs ≡ take a xs ++ take p (drop a xs)
take_add a p xs =
    let front : take a (take (a + p) xs) ≡ take a xs = take-take a (a + p) xs (omega arith) in
    sym (take-append-drop a (take (a + p) xs)) ∙ (λ i. front i ++ drop-take a p xs i)

take_reverse : {X : Type 0} (n : ℕ) (xs : List X) → n ≤ length xs → take n (reverse xs) ≡ reverse (drop (length xs - n) xs)
take_reverse n xs h =
    ap (λ ys. take n (reverse ys)) (sym (take-append-drop (length xs - n) xs))
    ∙ (ap (take n) (reverse-append (take (length xs - n) xs) (drop (length xs - n) xs))
    ∙ take_at (reverse (drop (length xs - n) xs)) (reverse (take (length xs - n) xs)) n (omega (arith, length-reverse (drop (length xs - n) xs), length-drop (length xs - n) xs)))

reverse_one : {X : Type 0} (x : X) (xs : List X) → reverse (x ∷ xs) ≡ reverse xs ++ x ∷ []
reverse_one x xs = reverse-append (x ∷ []) xs

map_reverse : {X Y : Type 0} (f : X → Y) (xs : List X) → map f (reverse xs) ≡ reverse (map f xs)
map_reverse f [] = refl
map_reverse f (x ∷ xs) =
    ap (map f) (reverse_one x xs) ∙ (map-append f (reverse xs) (x ∷ []) ∙ (ap (λ ys. ys ++ f x ∷ []) (map_reverse f xs) ∙ sym (reverse_one (f x) (map f xs))))

-- the common ending is the same, apart from spans and bounds
last_alike : (ts us : List Tree) → map plain (drop (length ts - common_last ts us) ts) ≡ map plain (drop (length us - common_last ts us) us)
last_alike ts us =
    let n = common_last ts us in
    let few : n ≤ length ts = omega (arith, first_within (reverse ts) (reverse us), length-reverse ts) in
    let few_others : n ≤ length us = omega (arith, first_within_others (reverse ts) (reverse us), length-reverse us) in
    let back : reverse (map plain (drop (length ts - n) ts)) ≡ reverse (map plain (drop (length us - n) us)) =
    sym (map_reverse plain (drop (length ts - n) ts)) ∙ (ap (map plain) (sym (take_reverse n ts few)) ∙ (first_alike (reverse ts) (reverse us) ∙ (ap (map plain) (take_reverse n us few_others) ∙ map_reverse plain (drop (length us - n) us)))) in
    sym (reverse-reverse (map plain (drop (length ts - n) ts))) ∙ (ap reverse back ∙ reverse-reverse (map plain (drop (length us - n) us)))

plain_left : (a o q s b : List Tree) → map plain ((a ++ o) ++ (q ++ (s ++ b))) ≡ map plain a ++ (map plain o ++ (map plain q ++ (map plain s ++ map plain b)))
plain_left a o q s b = simp (map-append, append_assoc)

plain_right : (a y q t b : List Tree) → map plain (a ++ ((y ++ (q ++ t)) ++ b)) ≡ map plain a ++ (map plain y ++ (map plain q ++ (map plain t ++ map plain b)))
plain_right a y q t b = simp (map-append, append_assoc)

plain_parts : (a o y q s t b : List Tree) → map plain o ≡ map plain y → map plain s ≡ map plain t → map plain ((a ++ o) ++ (q ++ (s ++ b))) ≡ map plain (a ++ ((y ++ (q ++ t)) ++ b))
plain_parts a o y q s t b first last =
    plain_left a o q s b ∙ ((λ i. map plain a ++ (first i ++ (map plain q ++ (last i ++ map plain b)))) ∙ sym (plain_right a y q t b))

pub trimmed_plain : (xs ys : List Tree) (a b : ℕ) → a ≤ b → b ≤ length xs → map plain (splice xs (a + kept_first a b ys xs) (b - kept_last a b ys xs) (slice_range ys (kept_first a b ys xs) (length ys - kept_last a b ys xs))) ≡ map plain (splice xs a b ys)
trimmed_plain xs ys a b order inside =
    let p = kept_first a b ys xs in
    let e = kept_last a b ys xs in
    let old = slice_range xs a b in
    let rest = slice_range xs (a + p) b in
    let others = drop p ys in
    let many : length old ≡ b - a = omega (arith, length-take (b - a) (drop a xs), length-drop a xs) in
    let p_old : p ≤ b - a = omega (arith, first_within old ys) in
    let p_new : p ≤ length ys = first_within_others old ys in
    let many_rest : length rest ≡ b - (a + p) = omega (arith, length-take (b - (a + p)) (drop (a + p) xs), length-drop (a + p) xs) in
    let e_old : e ≤ b - (a + p) = omega (arith, first_within (reverse rest) (reverse others), length-reverse rest) in
    let e_new : e ≤ length ys - p = omega (arith, first_within_others (reverse rest) (reverse others), length-reverse others, length-drop p ys) in
    let front : take (a + p) xs ≡ take a xs ++ take p old = take_add a p xs ∙ ap (λ zs. take a xs ++ zs) (sym (take-take p (b - a) (drop a xs) p_old)) in
    let from : (a + p) + (length rest - e) ≡ b - e = omega arith in
    let ending : drop (length rest - e) rest ≡ slice_range xs (b - e) b = drop_slice xs (a + p) b (length rest - e) (omega arith) ∙ ap (λ n. slice_range xs n b) from in
    let back : drop (b - e) xs ≡ drop (length rest - e) rest ++ drop b xs = drop_split xs (b - e) b (omega arith) ∙ ap (λ zs. zs ++ drop b xs) (sym ending) in
    let left : length ys - e - p ≡ length others - e = omega (arith, length-drop p ys) in
    let middle : slice_range ys p (length ys - e) ≡ take (length others - e) others = ap (λ n. take n others) left in
    let split : ys ≡ take p ys ++ (take (length others - e) others ++ drop (length others - e) others) = sym (take-append-drop p ys) ∙ ap (λ zs. take p ys ++ zs) (sym (take-append-drop (length others - e) others)) in
    ap (map plain) (λ i. front i ++ (middle i ++ back i))
    ∙ (plain_parts (take a xs) (take p old) (take p ys) (take (length others - e) others) (drop (length rest - e) rest) (drop (length others - e) others) (drop b xs) (first_alike old ys) (last_alike rest others)
    ∙ ap (λ zs. map plain (take a xs ++ (zs ++ drop b xs))) (sym split))

-- sums fit of lists that are the same apart from spans and bounds
pub within_same : (g : Growth) (olds ts us : List Tree) → map plain ts ≡ map plain us → GrowWithin g olds ts → GrowWithin g olds us
within_same g olds ts us same h = (omega (arith, ap length (same_text_of_all ts us same), h.0), omega (arith, same_count_of_all ts us same, h.1))

pub fits_same : (ts us : List Tree) → map plain ts ≡ map plain us → SumsFit ts → SumsFit us
fits_same ts us same h = (omega (arith, ap length (same_text_of_all ts us same), h.0), omega (arith, same_count_of_all ts us same, h.1))
