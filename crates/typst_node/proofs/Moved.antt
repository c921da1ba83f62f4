-- The moves of an edit say of each child that stays where its nodes are.
use Rattle.std.proofs.Common.{◌≡◌, ℕ, suc, zero, ◌+◌, ◌-◌, ◌<◌, ◌≤◌, inl, inr, true, false, List, [], ◌∷◌, ◌++◌, length, map, get_or, take, drop, refl, sym, ap, subst, ◌∙◌, arith, length-append, length-take, length-drop, Some, None}
use Rattle.std.specs.Prelude.{slice_range}
use Rattle.std.specs.List.{AllByRecursion, splice}
use Rattle.std.specs.declared.ops.Range.{Range}
use Rattle.std.proofs.lemmas.Bool.Decides.{nat_tests}
use Rattle.std.proofs.lemmas.List.{map-append, length-map, get_or_append_left, get_or-append-add, take-append-drop, drop-drop}
use Rattle.typst_node.specs.Tree.{Label, Forest, none, tree, Tree, forest, trees}
use Rattle.typst_node.specs.Preorder.{preorder}
use Rattle.typst_node.specs.Labels.{number}
use Rattle.typst_node.specs.Numbered.{Rise}
use Rattle.typst_node.specs.Plain.{plain, plain_label, plain_forest}
use Rattle.typst_node.specs.Interval.{IsWithin}
use Rattle.typst_node.specs.OpenNumbers.{open_from, open_to}
use Rattle.typst_node.specs.Paths.{no_tree, IsPath, tree_at}
use Rattle.typst_node.specs.Window.{site_at}
use Rattle.typst_node.specs.Moves.{NumberMoves, AreMoves, numbers, is_within, followed}
use Rattle.typst_node.proofs.Trees.{trees_of_forest}
use Rattle.typst_node.proofs.Plain.{preorder_plain, forest_plain, same_count_of_all}
use Rattle.typst_node.proofs.SamePlain.{many_alike}
use Rattle.typst_node.proofs.Settled.{get_take, length_splice}
use Rattle.typst_node.proofs.Outside.{get_drop}
use Rattle.typst_node.proofs.Within.{within_le, within_wider, within_append, within_front, within_back, within_first}
use Rattle.typst_node.proofs.Ordered.{IsIn, all_in, rise_in}
use Rattle.typst_node.proofs.Replaced.{le_open_to}
use Rattle.typst_node.proofs.Following.{length_numbers, followed_listed, followed_other, followed_gone}
use Rattle.typst_node.proofs.Noted.{last, parts, stays, stays_after, rises, gap, plain_front, plain_back}
use Rattle.typst_node.proofs.MovedPaths.{IsBeside, node_before, node_after, opens_meet, opens_rise}

-- ---- one place in the preorders of two forests that have one plain forest
record IsPair (xs ys : List ℕ) (x y : ℕ) : Type 0 where
  i : ℕ
  here : i < length xs
  here_too : i < length ys
  old : get_or xs i 0 ≡ x
  new : get_or ys i 0 ≡ y

same_many : (f g : Forest) → plain_forest f ≡ plain_forest g → length (map number (preorder f)) ≡ length (map number (preorder g))
same_many f g e =
    length-map (preorder f) number ∙ (sym (length-map (preorder f) plain_label) ∙ (ap length (sym (preorder_plain f) ∙ (ap preorder e ∙ preorder_plain g)) ∙ (length-map (preorder g) plain_label ∙ sym (length-map (preorder g) number))))

pair_left : (n m : ℕ) (xs ys zs ws : List ℕ) (x y : ℕ) → IsPair xs ys x y → IsPair (n ∷ (xs ++ zs)) (m ∷ (ys ++ ws)) x y
pair_left n m xs ys zs ws x y p = record {
  i = suc p.i;
  here = omega (arith, p.here, length-append xs zs);
  here_too = omega (arith, p.here_too, length-append ys ws);
  old = get_or_append_left xs zs 0 p.i p.here ∙ p.old;
  new = get_or_append_left ys ws 0 p.i p.here_too ∙ p.new;
}

pair_right : (n m : ℕ) (xs ys zs ws : List ℕ) (x y : ℕ) → length xs ≡ length ys → IsPair zs ws x y → IsPair (n ∷ (xs ++ zs)) (m ∷ (ys ++ ws)) x y
pair_right n m xs ys zs ws x y many p = record {
  i = suc (length xs + p.i);
  here = omega (arith, p.here, length-append xs zs);
  here_too = omega (arith, p.here_too, many, length-append ys ws);
  old = get_or-append-add xs zs p.i 0 ∙ p.old;
  new = ap (λ k. get_or (ys ++ ws) (k + p.i) 0) many ∙ (get_or-append-add ys ws p.i 0 ∙ p.new);
}

pair_in : (f g : Forest) (j : ℕ) (q : List ℕ) → plain_forest f ≡ plain_forest g → j < length (trees f) → IsPath q (get_or (trees f) j no_tree)
    → IsPair (map number (preorder f)) (map number (preorder g)) (number (tree_at q (get_or (trees f) j no_tree)).label) (number (tree_at q (get_or (trees g) j no_tree)).label)
pair_in none g j q e h p = absurd (omega arith)
pair_in (tree l c r) none j q e h p = cc
pair_in (tree l c r) (tree m d s) zero [] e h p = record { i = 0; here = omega arith; here_too = omega arith; old = refl; new = refl }
pair_in (tree l c r) (tree m d s) zero (k ∷ q) e h p =
    let kids : plain_forest c ≡ plain_forest d = cc in
    let below = pair_in c d k q kids p.0 p.1 in
    let x = number (tree_at q (get_or (trees c) k no_tree)).label in
    let y = number (tree_at q (get_or (trees d) k no_tree)).label in
    coe 1 0 (i. IsPair (number l ∷ map-append number (preorder c) (preorder r) i) (number m ∷ map-append number (preorder d) (preorder s) i) x y)
    (pair_left (number l) (number m) (map number (preorder c)) (map number (preorder d)) (map number (preorder r)) (map number (preorder s)) x y below)
pair_in (tree l c r) (tree m d s) (suc j) q e h p =
    let kids : plain_forest c ≡ plain_forest d = cc in
    let rest : plain_forest r ≡ plain_forest s = cc in
    let later = pair_in r s j q rest (omega arith) p in
    let x = number (tree_at q (get_or (trees r) j no_tree)).label in
    let y = number (tree_at q (get_or (trees s) j no_tree)).label in
    coe 1 0 (i. IsPair (number l ∷ map-append number (preorder c) (preorder r) i) (number m ∷ map-append number (preorder d) (preorder s) i) x y)
    (pair_right (number l) (number m) (map number (preorder c)) (map number (preorder d)) (map number (preorder r)) (map number (preorder s)) x y (same_many c d kids) later)

pair_of : (xs ys : List Tree) (j : ℕ) (q : List ℕ) → map plain xs ≡ map plain ys → j < length xs → IsPath q (get_or xs j no_tree)
    → IsPair (numbers xs) (numbers ys) (number (tree_at q (get_or xs j no_tree)).label) (number (tree_at q (get_or ys j no_tree)).label)
pair_of xs ys j q same h p =
    let plains : plain_forest (forest xs) ≡ plain_forest (forest ys) = sym (forest_plain xs) ∙ (ap forest same ∙ forest_plain ys) in
    let back : trees (forest xs) ≡ xs = trees_of_forest xs in
    let pair = pair_in (forest xs) (forest ys) j q plains (subst (λ (ts : List Tree). j < length ts) (sym back) h) (subst (λ (ts : List Tree). IsPath q (get_or ts j no_tree)) (sym back) p) in
    coe 0 1 (i. IsPair (numbers xs) (numbers ys) (number (tree_at q (get_or (back i) j no_tree)).label) (number (tree_at q (get_or (trees_of_forest ys i) j no_tree)).label)) pair

-- ---- a number in a range
is_in : (a b n : ℕ) → a ≤ n → n < b → is_within record { start = a; end = b } n ≡ true
is_in a b n low high = grind (arith, nat_tests)

below_start : (a b n : ℕ) → n < a → is_within record { start = a; end = b } n ≡ false
below_start a b n low = grind (arith, nat_tests)

pub above_end : (a b n : ℕ) → b ≤ n → is_within record { start = a; end = b } n ≡ false
above_end a b n high = grind (arith, nat_tests)

not_in : (a b n : ℕ) → IsBeside a b n → is_within record { start = a; end = b } n ≡ false
not_in a b n (inl low) = below_start a b n low
not_in a b n (inr high) = above_end a b n high

all_get : (low high : ℕ) (file : ℕ) (ls : List Label) → AllByRecursion (IsIn file low high) ls → (i : ℕ) → i < length (map number ls) → (low ≤ get_or (map number ls) i 0) × (get_or (map number ls) i 0 < high)
all_get low high file [] h i k = absurd (omega arith)
all_get low high file (l ∷ ls) h zero k = (h.0.1, h.0.2)
all_get low high file (l ∷ ls) h (suc i) k = all_get low high file ls h.1 i (omega arith)

wider : (a b c d n : ℕ) → a ≤ c → d ≤ b → IsBeside a b n → IsBeside c d n
wider a b c d n low high (inl less) = inl (omega arith)
wider a b c d n low high (inr more) = inr (omega arith)

never_beside : (a b n : ℕ) → IsBeside a b n → a ≤ n → n < b → ⊥
never_beside a b n (inl less) low high = omega arith
never_beside a b n (inr more) low high = omega arith

-- an element of a part of a list
part_get : (xs : List Tree) (a b k : ℕ) → k < b - a → get_or (slice_range xs a b) k no_tree ≡ get_or xs (a + k) no_tree
part_get xs a b k h = get_take k (b - a) (drop a xs) no_tree h ∙ get_drop a k xs no_tree

part_long : (xs : List Tree) (a b : ℕ) → a ≤ b → b ≤ length xs → length (slice_range xs a b) ≡ b - a
part_long xs a b h k = omega (arith, length-take (b - a) (drop a xs), length-drop a xs)

-- ---- a change of children in a window
module _ (file first upper from to : ℕ) (ys ts us : List Tree) (window : Range ℕ) (order : from ≤ to) (inside : to ≤ length ts) (starts : window.start ≤ from) (changed : from + length ys ≤ window.end) (ends : window.end + to ≤ from + length ys + length ts)
    (within : IsWithin file first upper (forest ts)) (same : map plain us ≡ map plain (splice ts from to ys)) (m : NumberMoves) (are : AreMoves (site_at first upper from to ys ts) window us m) where
  abbrev z : ℕ
  z = last first upper from to ys ts window order inside starts changed ends

  abbrev a : List Tree
  a = slice_range ts window.start from

  abbrev b : List Tree
  b = slice_range ts to z

  abbrev c : List Tree
  c = slice_range us window.start from

  abbrev d : List Tree
  d = slice_range us (from + length ys) window.end

  abbrev low : ℕ
  low = open_from first (take from ts)

  abbrev high : ℕ
  high = open_to upper (drop to ts)

  olds : m.olds ≡ numbers (a ++ b)
  olds = are.olds ∙ ap numbers (stays first upper from to ys ts window order inside starts changed ends)

  news : m.news ≡ numbers (c ++ d)
  news = are.news ∙ ap numbers (stays_after first upper from to ys ts window order inside starts changed ends us same)

  plains : map plain (a ++ b) ≡ map plain (c ++ d)
  plains =
      map-append plain a b
      ∙ ((λ i. sym (plain_front first upper from to ys ts window order inside starts changed ends us same) i ++ sym (plain_back first upper from to ys ts window order inside starts changed ends us same) i) ∙ sym (map-append plain c d))

  rise : Rise m.olds
  rise = subst Rise (sym olds) (rises first upper from to ys ts window order inside starts changed ends (rise_in file first upper (forest ts) within))

  many : length m.news ≡ length m.olds
  many = ap length news ∙ (length_numbers (c ++ d) ∙ (sym (same_count_of_all (a ++ b) (c ++ d) plains) ∙ (sym (length_numbers (a ++ b)) ∙ ap length (sym olds))))

  gone_is : m.gone ≡ record { start = low; end = high }
  gone_is = are.gone ∙ sym (gap first upper from to ys ts window order inside starts changed ends record { start = low; end = high } refl refl)

  beside_gone : (n : ℕ) → IsBeside low high n → is_within m.gone n ≡ false
  beside_gone n h = ap (λ g. is_within g n) gone_is ∙ not_in low high n h

  -- a child that stays, at a place k among those that stay
  stays_at : (j i k : ℕ) (q : List ℕ) → k < length (a ++ b) → get_or (a ++ b) k no_tree ≡ get_or ts j no_tree → get_or (c ++ d) k no_tree ≡ get_or us i no_tree → IsPath q (get_or ts j no_tree)
      → IsBeside low high (number (tree_at q (get_or ts j no_tree)).label) → followed m (number (tree_at q (get_or ts j no_tree)).label) ≡ Some (number (tree_at q (get_or us i no_tree)).label)
  stays_at j i k q there old new path out =
      let pair = pair_of (a ++ b) (c ++ d) k q plains there (subst (IsPath q) (sym old) path) in
      let x : get_or m.olds pair.i 0 ≡ number (tree_at q (get_or ts j no_tree)).label = ap (λ ns. get_or ns pair.i 0) olds ∙ (pair.old ∙ ap (λ (t : Tree). number (tree_at q t).label) old) in
      let y : get_or m.news pair.i 0 ≡ number (tree_at q (get_or us i no_tree)).label = ap (λ ns. get_or ns pair.i 0) news ∙ (pair.new ∙ ap (λ (t : Tree). number (tree_at q t).label) new) in
      followed_listed m (number (tree_at q (get_or ts j no_tree)).label) pair.i (number (tree_at q (get_or us i no_tree)).label) (beside_gone _ out) rise (omega (arith, pair.here, ap length olds)) x many y

  a_long : length a ≡ from - window.start
  a_long = part_long ts window.start from starts (omega arith)

  us_long : length us + (to - from) ≡ length ts + length ys
  us_long = omega (arith, length_splice ts ys from to order inside, many_alike us (splice ts from to ys) same)

  c_long : length c ≡ from - window.start
  c_long = part_long us window.start from starts (omega (arith, us_long))

  b_long : length b ≡ z - to
  b_long = part_long ts to z (omega arith) (omega arith)

  -- of the children before the changed ones
  pub before_stays : (j : ℕ) (q : List ℕ) → window.start ≤ j → j < from → IsPath q (get_or ts j no_tree) → followed m (number (tree_at q (get_or ts j no_tree)).label) ≡ Some (number (tree_at q (get_or us j no_tree)).label)
  before_stays j q low_j high_j path =
      let k = j - window.start in
      let place : window.start + k ≡ j = omega arith in
      let less : k < from - window.start = omega arith in
      let at = node_before q file first upper ts j from high_j (omega arith) path within in
      stays_at j j k q (omega (arith, length-append a b, a_long))
      (get_or_append_left a b no_tree k (omega (arith, a_long)) ∙ (part_get ts window.start from k less ∙ ap (λ n. get_or ts n no_tree) place))
      (get_or_append_left c d no_tree k (omega (arith, c_long)) ∙ (part_get us window.start from k less ∙ ap (λ n. get_or us n no_tree) place))
      path (inl (omega (arith, at.some, at.high)))

  -- and of those after them
  pub behind_stays : (j i : ℕ) (q : List ℕ) → from + length ys ≤ i → i < window.end → j + (from + length ys) ≡ to + i → IsPath q (get_or ts j no_tree) → followed m (number (tree_at q (get_or ts j no_tree)).label) ≡ Some (number (tree_at q (get_or us i no_tree)).label)
  behind_stays j i q low_i high_i is path =
      let k = i - (from + length ys) in
      let old : to + k ≡ j = omega arith in
      let new : from + length ys + k ≡ i = omega arith in
      let at = node_after q file first upper ts j to (omega arith) (omega arith) path within in
      let place : from - window.start + k ≡ length a + k = omega (arith, a_long) in
      let place_too : from - window.start + k ≡ length c + k = omega (arith, c_long) in
      stays_at j i (from - window.start + k) q (omega (arith, length-append a b, a_long, b_long))
      (ap (λ n. get_or (a ++ b) n no_tree) place ∙ (get_or-append-add a b k no_tree ∙ (part_get ts to z k (omega arith) ∙ ap (λ n. get_or ts n no_tree) old)))
      (ap (λ n. get_or (c ++ d) n no_tree) place_too ∙ (get_or-append-add c d k no_tree ∙ (part_get us (from + length ys) window.end k (omega arith) ∙ ap (λ n. get_or us n no_tree) new)))
      path (inr at.low)

  -- of the replaced children nothing is left
  pub none_stays : (j : ℕ) (q : List ℕ) → from ≤ j → j < to → IsPath q (get_or ts j no_tree) → followed m (number (tree_at q (get_or ts j no_tree)).label) ≡ None
  none_stays j q low_j high_j path =
      let one = node_after q file first upper ts j from low_j (omega arith) path within in
      let two = node_before q file first upper ts j to high_j (omega arith) path within in
      let front = opens_meet file first upper from ts within in
      let back = opens_meet file first upper to ts within in
      followed_gone m (number (tree_at q (get_or ts j no_tree)).label)
      (ap (λ g. is_within g (number (tree_at q (get_or ts j no_tree)).label)) gone_is ∙ is_in low high (number (tree_at q (get_or ts j no_tree)).label) (omega (arith, one.low, front.0)) (omega (arith, two.some, two.high, back.0)))

  -- a number beside the window stays
  abbrev pub start : ℕ
  start = open_from first (take window.start ts)

  abbrev pub stop : ℕ
  stop = open_to upper (drop z ts)

  both_within : IsWithin file start stop (forest (a ++ b))
  both_within =
      let p = take window.start ts in
      let g = slice_range ts from to in
      let r = drop z ts in
      let all = subst (λ (xs : List Tree). IsWithin file first upper (forest xs)) (parts first upper from to ys ts window order inside starts changed ends) within in
      let rest = within_back file first upper p (a ++ (g ++ (b ++ r))) all in
      let one = within_front file start upper a (g ++ (b ++ r)) rest in
      let mid = within_back file start upper a (g ++ (b ++ r)) rest in
      let gap_le = within_le file (open_from start a) (open_from (open_from start a) g) (forest g) (within_front file (open_from start a) upper g (b ++ r) mid) in
      let tail = within_back file (open_from start a) upper g (b ++ r) mid in
      let two = within_front file (open_from (open_from start a) g) upper b r tail in
      let end = le_open_to file (open_from (open_from (open_from start a) g) b) upper r (within_back file (open_from (open_from start a) g) upper b r tail) in
      within_append file start (open_from start a) stop a b one (within_wider file (open_from (open_from start a) g) (open_from (open_from (open_from start a) g) b) (open_from start a) stop (forest b) two gap_le end)

  high_le : high ≤ stop
  high_le =
      let rest = within_first file (open_from first (take to ts)) upper (drop to ts) (within_back file first upper (take to ts) (drop to ts) (subst (λ (xs : List Tree). IsWithin file first upper (forest xs)) (sym (take-append-drop to ts)) within)) in
      let meet = opens_meet file high upper (z - to) (drop to ts) rest in
      let place : to + (z - to) ≡ z = omega arith in
      let far : drop (z - to) (drop to ts) ≡ drop z ts = drop-drop (z - to) to ts ∙ ap (λ n. drop n ts) place in
      omega (arith, meet.0, meet.1, ap (open_to upper) far)

  pub other_stays : (n : ℕ) → IsBeside start stop n → followed m n ≡ Some n
  other_stays n out =
      let less = opens_rise file first upper window.start from ts starts within in
      let all = all_get start stop file (preorder (forest (a ++ b))) (all_in file start stop (forest (a ++ b)) both_within) in
      followed_other m n (beside_gone n (wider start stop low high n less high_le out)) many
      (λ i there is. let at = all i (omega (arith, ap length olds)) in let it : get_or (numbers (a ++ b)) i 0 ≡ n = ap (λ ns. get_or ns i 0) (sym olds) ∙ is in never_beside start stop n out (omega (arith, at.0)) (omega (arith, at.1)))
