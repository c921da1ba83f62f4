-- The numbers of a range that pass a test.
use Rattle.std.proofs.Common.{◌≡◌, ℕ, zero, suc, ◌+◌, ◌-◌, ◌<◌, ◌≤◌, Bool, true, false, cond, List, [], ◌∷◌, ◌++◌, length, map, get_or, refl, ap, sym, ◌∙◌, arith, leb, ltb, ⊎_elim, length-append}
use Rattle.std.specs.List.{range_with_len, filter}
use Rattle.std.specs.List.Sorted.{IsNonDecreasingBy, IsPartitionedBy, IsPartitionPoint}
use Rattle.std.proofs.lemmas.List.{get_or_append_left, get_or-append_right, append-nil}
use Rattle.std.proofs.lemmas.List.Sorted.{IsPartitionedBy-leb, IsPartitionedBy-ltb}
use Rattle.std.proofs.lemmas.List.Elements.{filter-append}
use Rattle.std.proofs.lemmas.Bool.{cases_lt, false≢true}
use Rattle.std.proofs.lemmas.Bool.Decides.{nat_tests}

-- ---- a range in two parts
pub range-parts : (a n m : ℕ) → range_with_len a (n + m) ≡ range_with_len a n ++ range_with_len (a + n) m
range-parts a zero m =
    let e : 0 + m ≡ m = omega arith in
    let f : a ≡ a + 0 = omega arith in
    ap (range_with_len a) e ∙ ap (λ x. range_with_len x m) f
range-parts a (suc n) m =
    let e : suc n + m ≡ suc (n + m) = omega arith in
    let f : a + 1 + n ≡ a + suc n = omega arith in
    ap (range_with_len a) e ∙ ap (λ l. a ∷ l) (range-parts (a + 1) n m ∙ ap (λ x. range_with_len (a + 1) n ++ range_with_len x m) f)

pub range-halves : (a m b : ℕ) → a ≤ m → m ≤ b → range_with_len a (b - a) ≡ range_with_len a (m - a) ++ range_with_len m (b - m)
range-halves a m b low high =
    let e : b - a ≡ (m - a) + (b - m) = omega arith in
    let f : a + (m - a) ≡ m = omega arith in
    ap (range_with_len a) e ∙ range-parts a (m - a) (b - m) ∙ ap (λ x. range_with_len a (m - a) ++ range_with_len x (b - m)) f

-- ---- what is in a list of which the first may be left out
within_more : (b : Bool) (a n : ℕ) (rest : List ℕ) (k d : ℕ) → ((j : ℕ) → j < length rest → (a + 1 ≤ get_or rest j d) × (get_or rest j d < a + 1 + n)) → k < length (cond b (a ∷ rest) rest) → (a ≤ get_or (cond b (a ∷ rest) rest) k d) × (get_or (cond b (a ∷ rest) rest) k d < a + suc n)
within_more true a n rest zero d h l = (omega arith, omega arith)
within_more true a n rest (suc k) d h l =
    let within : k < length rest = omega arith in
    let w = h k within in
    (omega arith, omega arith)
within_more false a n rest k d h l = let w = h k l in (omega arith, omega arith)

rises_more : (b : Bool) (a : ℕ) (rest : List ℕ) (i j d : ℕ) → ((k : ℕ) → k < length rest → a + 1 ≤ get_or rest k d) → ((i j : ℕ) → i ≤ j → j < length rest → get_or rest i d ≤ get_or rest j d) → i ≤ j → j < length (cond b (a ∷ rest) rest) → get_or (cond b (a ∷ rest) rest) i d ≤ get_or (cond b (a ∷ rest) rest) j d
rises_more true a rest zero zero d low h le l = omega arith
rises_more true a rest zero (suc j) d low h le l = let within : j < length rest = omega arith in omega (arith, low j within)
rises_more true a rest (suc i) zero d low h le l = absurd (omega arith)
rises_more true a rest (suc i) (suc j) d low h le l =
    let within : j < length rest = omega arith in
    let below : i ≤ j = omega arith in
    h i j below within
rises_more false a rest i j d low h le l = h i j le l

map_more : (f : ℕ → ℕ) (b : Bool) (a : ℕ) (rest : List ℕ) → map f (cond b (a ∷ rest) rest) ≡ cond b (f a ∷ map f rest) (map f rest)
map_more f true a rest = refl
map_more f false a rest = refl

-- ---- two lists side by side, of which a test tells one from the other
apart_low : (test : ℕ → Bool) (xs ys : List ℕ) (k : ℕ) → ((i : ℕ) → i < length xs → test (get_or xs i 0) ≡ true) → IsPartitionPoint (λ y. test y ≡ true) (λ y. test y ≡ false) (xs ++ ys) k → k < length xs → ⊥
apart_low test xs ys k pass point less =
    let here : k < length (xs ++ ys) = omega (arith, length-append xs ys) in
    let same : k ≤ k = omega arith in
    let fails = point.1 k 0 same here in
    let e = get_or_append_left xs ys 0 k less in
    let passes = pass k less in
    false≢true (sym fails ∙ ap test e ∙ passes)

apart_high : (test : ℕ → Bool) (xs ys : List ℕ) (k : ℕ) → ((i : ℕ) → i < length ys → test (get_or ys i 0) ≡ false) → IsPartitionPoint (λ y. test y ≡ true) (λ y. test y ≡ false) (xs ++ ys) k → k ≤ length (xs ++ ys) → length xs < k → ⊥
apart_high test xs ys k fail point bound more =
    let low : 0 ≤ length xs = omega arith in
    let passes = point.0 (length xs) 0 low more in
    let same : length xs ≤ length xs = omega arith in
    let e = get_or-append_right xs ys (length xs) (length xs) 0 refl same in
    let z : length xs - length xs ≡ 0 = omega arith in
    let first : 0 < length ys = omega (arith, length-append xs ys) in
    let fails = fail 0 first in
    false≢true (sym fails ∙ ap (λ i. test (get_or ys i 0)) (sym z) ∙ ap test (sym e) ∙ passes)

pub point_between : (test : ℕ → Bool) (xs ys : List ℕ) (k : ℕ) → ((i : ℕ) → i < length xs → test (get_or xs i 0) ≡ true) → ((i : ℕ) → i < length ys → test (get_or ys i 0) ≡ false) → IsPartitionPoint (λ y. test y ≡ true) (λ y. test y ≡ false) (xs ++ ys) k → k ≤ length (xs ++ ys) → k ≡ length xs
point_between test xs ys k pass fail point bound =
    let low = apart_low test xs ys k pass point in
    let high = apart_high test xs ys k fail point bound in
    ⊎_elim (λ l. absurd (low l)) (λ g. ⊎_elim (λ l. absurd (high l)) (λ h. omega arith) (cases_lt (length xs) k)) (cases_lt k (length xs))

module _ (p : ℕ → Bool) where
  -- those from one number on, up to another
  abbrev pub picked : ℕ → ℕ → List ℕ
  picked a b = filter p (range_with_len a (b - a))

  pub picked-halves : (a m b : ℕ) → a ≤ m → m ≤ b → picked a b ≡ picked a m ++ picked m b
  picked-halves a m b low high =
      ap (filter p) (range-halves a m b low high) ∙ filter-append p (range_with_len a (m - a)) (range_with_len m (b - m))

  pub picked-one : (a : ℕ) → picked a (a + 1) ≡ cond (p a) (a ∷ []) []
  picked-one a = let e : a + 1 - a ≡ suc 0 = omega arith in ap (λ n. filter p (range_with_len a n)) e

  pub picked-none : (a : ℕ) → picked a a ≡ []
  picked-none a = let e : a - a ≡ 0 = omega arith in ap (λ n. filter p (range_with_len a n)) e

  -- one more
  pub picked-more : (a b : ℕ) → a ≤ b → picked a (b + 1) ≡ picked a b ++ cond (p b) (b ∷ []) []
  picked-more a b low =
      let high : b ≤ b + 1 = omega arith in
      picked-halves a b (b + 1) low high ∙ ap (λ l. picked a b ++ l) (picked-one b)

  pub picked-more_yes : (a b : ℕ) → a ≤ b → p b ≡ true → picked a (b + 1) ≡ picked a b ++ b ∷ []
  picked-more_yes a b low e = picked-more a b low ∙ ap (λ t. picked a b ++ cond t (b ∷ []) []) e

  pub picked-more_no : (a b : ℕ) → a ≤ b → p b ≡ false → picked a (b + 1) ≡ picked a b
  picked-more_no a b low e = picked-more a b low ∙ ap (λ t. picked a b ++ cond t (b ∷ []) []) e ∙ append-nil (picked a b)

  -- one that passes is not among those before it
  pub picked-longer : (a m b : ℕ) → a ≤ m → m < b → p m ≡ true → length (picked a m) < length (picked a b)
  picked-longer a m b low high e =
      let l1 : a ≤ m + 1 = omega arith in
      let l2 : m + 1 ≤ b = omega arith in
      let halves = ap (λ l. length l) (picked-halves a (m + 1) b l1 l2) in
      let more = ap (λ l. length l) (picked-more_yes a m low e) in
      omega (arith, halves, more, length-append (picked a (m + 1)) (picked (m + 1) b), length-append (picked a m) (m ∷ []))

  -- ---- they are in the range, and rise
  within_len : (a n k d : ℕ) → k < length (filter p (range_with_len a n)) → (a ≤ get_or (filter p (range_with_len a n)) k d) × (get_or (filter p (range_with_len a n)) k d < a + n)
  within_len a zero k d h = absurd (omega arith)
  within_len a (suc n) k d h = within_more (p a) a n (filter p (range_with_len (a + 1) n)) k d (λ j l. within_len (a + 1) n j d l) h

  pub picked_within : (a b k d : ℕ) → a ≤ b → k < length (picked a b) → (a ≤ get_or (picked a b) k d) × (get_or (picked a b) k d < b)
  picked_within a b k d le h = let w = within_len a (b - a) k d h in (omega arith, omega arith)

  rises_len : (a n i j d : ℕ) → i ≤ j → j < length (filter p (range_with_len a n)) → get_or (filter p (range_with_len a n)) i d ≤ get_or (filter p (range_with_len a n)) j d
  rises_len a zero i j d le h = absurd (omega arith)
  rises_len a (suc n) i j d le h =
      rises_more (p a) a (filter p (range_with_len (a + 1) n)) i j d (λ k l. (within_len (a + 1) n k d l).0) (λ i' j' le' l. rises_len (a + 1) n i' j' d le' l) le h

  pub picked_rise : (a b : ℕ) → IsNonDecreasingBy (λ (x : ℕ). x) (picked a b)
  picked_rise a b = λ i j d le h. rises_len a (b - a) i j d le h

  -- ---- where a test tells those below a number from the others
  pub point_below : (m b k : ℕ) → m ≤ b → IsPartitionPoint (λ y. ltb y m ≡ true) (λ y. ltb y m ≡ false) (picked 0 b) k → k ≤ length (picked 0 b) → k ≡ length (picked 0 m)
  point_below m b k le point bound =
      let low : 0 ≤ m = omega arith in
      let e = picked-halves 0 m b low le in
      point_between (λ y. ltb y m) (picked 0 m) (picked m b) k
      (λ i l. let w = picked_within 0 m i 0 low l in grind (arith, nat_tests))
      (λ i l. let w = picked_within m b i 0 le l in grind (arith, nat_tests))
      (rw e at point) (rw e at bound)

  pub point_up_to : (m b k : ℕ) → m < b → IsPartitionPoint (λ y. leb y m ≡ true) (λ y. leb y m ≡ false) (picked 0 b) k → k ≤ length (picked 0 b) → k ≡ length (picked 0 (m + 1))
  point_up_to m b k less point bound =
      let low : 0 ≤ m + 1 = omega arith in
      let le : m + 1 ≤ b = omega arith in
      let e = picked-halves 0 (m + 1) b low le in
      point_between (λ y. leb y m) (picked 0 (m + 1)) (picked (m + 1) b) k
      (λ i l. let w = picked_within 0 (m + 1) i 0 low l in grind (arith, nat_tests))
      (λ i l. let w = picked_within (m + 1) b i 0 le l in grind (arith, nat_tests))
      (rw e at point) (rw e at bound)

  pub parted_below : (xs : List ℕ) (b m : ℕ) → xs ≡ picked 0 b → IsPartitionedBy (λ y. ltb y m) xs
  parted_below xs b m e = IsPartitionedBy-ltb (λ (x : ℕ). x) xs m (rw e (picked_rise 0 b))

  pub parted_up_to : (xs : List ℕ) (b m : ℕ) → xs ≡ picked 0 b → IsPartitionedBy (λ y. leb y m) xs
  parted_up_to xs b m e = IsPartitionedBy-leb (λ (x : ℕ). x) xs m (rw e (picked_rise 0 b))

  pub found_below : (xs : List ℕ) (m b k : ℕ) → xs ≡ picked 0 b → m ≤ b → IsPartitionPoint (λ y. ltb y m ≡ true) (λ y. ltb y m ≡ false) xs k → k ≤ length xs → k ≡ length (picked 0 m)
  found_below xs m b k e le point bound = point_below m b k le (rw e at point) (rw e at bound)

  pub found_up_to : (xs : List ℕ) (m b k : ℕ) → xs ≡ picked 0 b → m < b → IsPartitionPoint (λ y. leb y m ≡ true) (λ y. leb y m ≡ false) xs k → k ≤ length xs → k ≡ length (picked 0 (m + 1))
  found_up_to xs m b k e less point bound = point_up_to m b k less (rw e at point) (rw e at bound)

  -- where the first passes there is one
  pub picked-some : (b : ℕ) → p 0 ≡ true → 1 ≤ length (picked 0 (b + 1))
  picked-some b e =
      let l1 : 0 ≤ 0 = omega arith in
      let l2 : 0 < b + 1 = omega arith in
      let longer = picked-longer 0 0 (b + 1) l1 l2 e in
      omega arith

-- ---- two tests that agree
agree_len : (p q : ℕ → Bool) (a n : ℕ) → ((i : ℕ) → a ≤ i → i < a + n → p i ≡ q i) → filter p (range_with_len a n) ≡ filter q (range_with_len a n)
agree_len p q a zero h = refl
agree_len p q a (suc n) h =
    let low : a ≤ a = omega arith in
    let high : a < a + suc n = omega arith in
    let e = h a low high in
    let r = agree_len p q (a + 1) n (λ i l u. let l' : a ≤ i = omega arith in let u' : i < a + suc n = omega arith in h i l' u') in
    ap (λ t. cond t (a ∷ filter p (range_with_len (a + 1) n)) (filter p (range_with_len (a + 1) n))) e ∙ ap (λ l. cond (q a) (a ∷ l) l) r

pub picked-agree : (p q : ℕ → Bool) (a b : ℕ) → ((i : ℕ) → a ≤ i → i < b → p i ≡ q i) → picked p a b ≡ picked q a b
picked-agree p q a b h = agree_len p q a (b - a) (λ i l u. let u' : i < b = omega arith in h i l u')

moved_len : (p q : ℕ → Bool) (f : ℕ → ℕ) (a b n : ℕ) → ((i j : ℕ) → a ≤ i → i < a + n → i + b ≡ j + a → (p i ≡ q j) × (f j ≡ i)) → filter p (range_with_len a n) ≡ map f (filter q (range_with_len b n))
moved_len p q f a b zero h = refl
moved_len p q f a b (suc n) h =
    let low : a ≤ a = omega arith in
    let high : a < a + suc n = omega arith in
    let even : a + b ≡ b + a = omega arith in
    let e = h a b low high even in
    let r = moved_len p q f (a + 1) (b + 1) n (λ i j l u s. let l' : a ≤ i = omega arith in let u' : i < a + suc n = omega arith in let s' : i + b ≡ j + a = omega arith in h i j l' u' s') in
    let F = filter p (range_with_len (a + 1) n) in
    let G = filter q (range_with_len (b + 1) n) in
    ap (λ t. cond t (a ∷ filter p (range_with_len (a + 1) n)) (filter p (range_with_len (a + 1) n))) e.0
    ∙ ap (λ l. cond (q b) (a ∷ l) l) r
    ∙ ap (λ x. cond (q b) (x ∷ map f (filter q (range_with_len (b + 1) n))) (map f (filter q (range_with_len (b + 1) n)))) (sym e.1)
    ∙ sym (map_more f (q b) b (filter q (range_with_len (b + 1) n)))

-- p holds on one side where q holds on the other, and f leads from there to here
pub picked-moved : (p q : ℕ → Bool) (f : ℕ → ℕ) (a a' b b' : ℕ) → a' - a ≡ b' - b → ((i j : ℕ) → a ≤ i → i < a' → i + b ≡ j + a → (p i ≡ q j) × (f j ≡ i)) → picked p a a' ≡ map f (picked q b b')
picked-moved p q f a a' b b' e h =
    moved_len p q f a b (a' - a) (λ i j l u s. let u' : i < a' = omega arith in h i j l u' s) ∙ ap (λ n. map f (filter q (range_with_len b n))) e
