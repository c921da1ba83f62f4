-- The list of a set's kinds: its first kind, and its length.
use Rattle.std.proofs.Common.{◌≡◌, ℕ, zero, suc, ◌+◌, ◌-◌, ◌*◌, ◌/◌, ◌%◌, ◌^◌, ◌<◌, ◌≤◌, ◌≢◌, ◌==◌, ◌&&◌, not, Bool, true, false, cond, get_or, refl, ap, sym, ◌∙◌, List, [], ◌∷◌, length, map, arith, inl, inr, Option, Some, None}
use Rattle.std.specs.Prelude.{◌↔◌, IfNone, IfSome, IsNone, IsTrue}
use Rattle.std.specs.List.{filter, range_with_len, slice_get}
use Rattle.std.specs.Int.{bit_at, trailing_zeros, w128, w16}
use Rattle.std.specs.Int.Count.{ones, ones-le, ones_step, ones_cat, trailing_of_zero}
use Rattle.std.proofs.lemmas.Bool.Decides.{nat_tests, eqb_tells, leb_tells}
use Rattle.std.proofs.lemmas.List.Filters.{length-filter_both}
use Rattle.std.proofs.lemmas.Nat.Bits.{bit_at_lowest, bit_at-suc, bit_at-trailing_zeros, bit_at-zero}
use Rattle.typst_base.specs.Flags.{flags}
use Rattle.typst_base.specs.AllKinds.{all_kinds}
use Rattle.typst_base.specs.KindList.{all_kinds-at, kinds_in, numbers-all_kinds}
use Rattle.typst_base.specs.KindNumber.{number_of}
use Rattle.typst_base.specs.KindSet.{holds, is_kind}
use Rattle.typst_base.specs.declared.kind.SyntaxKind.{SyntaxKind}
use Rattle.typst_base.proofs.SetLemmas.{flag_at, flag_at_high, flag_at_low, flags-get, holds-words, number_of-lt}

length-all_kinds : length all_kinds ≡ 137
unfolding all_kinds
length-all_kinds = refl

numbers : map number_of all_kinds ≡ range_with_len 0 (length all_kinds)
numbers = numbers-all_kinds ∙ ap (range_with_len 0) (sym length-all_kinds)

-- two kinds with one number are one kind
same_kind : (a b : SyntaxKind) → number_of a ≡ number_of b → a ≡ b
same_kind a b e =
    let both : Some a ≡ Some b = sym (all_kinds-at a) ∙ ap (slice_get all_kinds) e ∙ all_kinds-at b in cc

-- among kinds whose numbers are n, n + 1 and so on, one has the number n + i
numbered : (n i : ℕ) (xs : List SyntaxKind) → map number_of xs ≡ range_with_len n (length xs) → i < length xs → (k : SyntaxKind) × (number_of k ≡ n + i)
numbered n i [] e within = absurd (omega arith)
numbered n zero (x ∷ xs) e within =
    let head : number_of x ≡ n = cc in (x, omega arith)
numbered n (suc i) (x ∷ xs) e within =
    let tail : map number_of xs ≡ range_with_len (n + 1) (length xs) = cc in
    let found : (k : SyntaxKind) × (number_of k ≡ n + 1 + i) = numbered (n + 1) i xs tail (omega arith) in
    let at = found.1 in (found.0, omega arith)

kind_numbered : (m : ℕ) → m < 137 → (k : SyntaxKind) × (number_of k ≡ m)
kind_numbered m within =
    let found : (k : SyntaxKind) × (number_of k ≡ 0 + m) = numbered 0 m all_kinds numbers (omega (arith, length-all_kinds)) in
    let at = found.1 in (found.0, omega arith)

-- ---- the first kind of a filter, and the others

and-not-true : (b c : Bool) → c ≡ true → (b && not c) ≡ false
and-not-true false c e = refl
and-not-true true c e = ap not e

and-not-false : (b c : Bool) → c ≡ false → (b && not c) ≡ b
and-not-false false c e = refl
and-not-false true c e = ap not e

and-false : (b c : Bool) → b ≡ false → (b && c) ≡ false
and-false b c e = ap (λ x. x && c) e

filter-none : (p : SyntaxKind → Bool) (xs : List SyntaxKind) → ((k : SyntaxKind) → p k ≡ false) → filter p xs ≡ []
filter-none p [] e = refl
filter-none p (x ∷ xs) e = rw (e x) (filter-none p xs e)

filter-yes : (p : SyntaxKind → Bool) (x : SyntaxKind) (xs : List SyntaxKind) → p x ≡ true → filter p (x ∷ xs) ≡ x ∷ filter p xs
filter-yes p x xs e = ap (λ b. cond b (x ∷ filter p xs) (filter p xs)) e

filter-no : (p : SyntaxKind → Bool) (x : SyntaxKind) (xs : List SyntaxKind) → p x ≡ false → filter p (x ∷ xs) ≡ filter p xs
filter-no p x xs e = ap (λ b. cond b (x ∷ filter p xs) (filter p xs)) e

-- kinds with larger numbers
filter-after : (p q : SyntaxKind → Bool) (kind : SyntaxKind) → ((k : SyntaxKind) → q k ≡ (p k && not (is_kind kind k))) → (n : ℕ) (xs : List SyntaxKind) → map number_of xs ≡ range_with_len n (length xs) → number_of kind < n → filter q xs ≡ filter p xs
filter-after p q kind less n [] e above = refl
filter-after p q kind less n (x ∷ xs) e above =
    let head : number_of x ≡ n = cc in
    let tail : map number_of xs ≡ range_with_len (n + 1) (length xs) = cc in
    let apart : (number_of kind == number_of x) ≡ false = grind (arith, nat_tests) in
    let same : q x ≡ p x = less x ∙ and-not-false (p x) (is_kind kind x) apart in
    let rest : filter q xs ≡ filter p xs = filter-after p q kind less (n + 1) xs tail (omega arith) in
    ap (λ b. cond b (x ∷ filter q xs) (filter q xs)) same ∙ ap (λ ys. cond (p x) (x ∷ ys) ys) rest

filter-first : (p q : SyntaxKind → Bool) (kind : SyntaxKind) → p kind ≡ true → ((k : SyntaxKind) → number_of k < number_of kind → p k ≡ false) → ((k : SyntaxKind) → q k ≡ (p k && not (is_kind kind k))) → (n : ℕ) (xs : List SyntaxKind) → map number_of xs ≡ range_with_len n (length xs) → n ≤ number_of kind → number_of kind < n + length xs → filter p xs ≡ kind ∷ filter q xs
filter-first p q kind held lowest less n [] e above below = absurd (omega arith)
filter-first p q kind held lowest less n (x ∷ xs) e above below =
    let head : number_of x ≡ n = cc in
    let tail : map number_of xs ≡ range_with_len (n + 1) (length xs) = cc in
    elim (eqb_tells (number_of kind) (number_of x)) [
      | inl same ↦
          let here : x ≡ kind = same_kind x kind (sym same.1) in
          let at : number_of kind ≡ number_of x = same.1 in
          let rest : filter q xs ≡ filter p xs = filter-after p q kind less (n + 1) xs tail (omega arith) in
          filter-yes p x xs (ap p here ∙ held) ∙ ap (λ k. k ∷ filter p xs) here
          ∙ ap (λ ys. kind ∷ ys) (sym (filter-no q x xs (less x ∙ and-not-true (p x) (is_kind kind x) same.0) ∙ rest))
      | inr other ↦
          let apart : number_of kind ≢ number_of x = other.1 in
          let under : number_of x < number_of kind = grind (arith, nat_tests) in
          let no : p x ≡ false = lowest x under in
          filter-no p x xs no
          ∙ filter-first p q kind held lowest less (n + 1) xs tail (omega arith) (omega arith)
          ∙ ap (λ ys. kind ∷ ys) (sym (filter-no q x xs (less x ∙ and-false (p x) (not (is_kind kind x)) no)))
    ]

pub kinds_in-none : (s : List Bool) → ((k : SyntaxKind) → holds s k ≡ false) → kinds_in s ≡ []
kinds_in-none s e = filter-none (holds s) all_kinds e

-- the first kind, and then those of the set without it
pub kinds_in-first : (s t : List Bool) (kind : SyntaxKind) → holds s kind ≡ true → ((k : SyntaxKind) → number_of k < number_of kind → holds s k ≡ false) → ((k : SyntaxKind) → holds t k ≡ (holds s k && not (is_kind kind k))) → kinds_in s ≡ kind ∷ kinds_in t
kinds_in-first s t kind held lowest less =
    filter-first (holds s) (holds t) kind held lowest less 0 all_kinds numbers (omega arith) (omega (arith, length-all_kinds, number_of-lt kind))

-- ---- the place of the first flag in two words

-- the flag at m is the first one; where m is 137 or more, there is none
pub record IsFirstFlag (low high m : ℕ) : Type 0 where
  pub before : (i : ℕ) → i < m → i < 137 → flag_at low high i ≡ false
  pub here : m < 137 → flag_at low high m ≡ true

pub first_flag-low : (low high : ℕ) → low ≢ 0 → low < 2 ^ 128 → IsFirstFlag low high (trailing_zeros w128 low)
first_flag-low low high some below =
    let place = bit_at-trailing_zeros w128 low (omega (arith, some)) below in
    record {
      before = λ i under within.
          let small : i < 128 = omega (arith, place.0, under) in flag_at_low low high i small ∙ ap (λ d. d == 1) (place.2 i under);
      here = λ within. flag_at_low low high (trailing_zeros w128 low) place.0 ∙ ap (λ d. d == 1) place.1;
    }

no_low : (low high i : ℕ) → low ≡ 0 → i < 128 → flag_at low high i ≡ false
no_low low high i e small =
    flag_at_low low high i small ∙ ap (λ w. bit_at w i == 1) e ∙ ap (λ d. d == 1) (bit_at-zero i)

first_flag-none : (low high : ℕ) → low ≡ 0 → high ≡ 0 → IsFirstFlag low high (128 + trailing_zeros w16 high)
first_flag-none low high e f =
    let beyond : trailing_zeros w16 high ≡ 16 = ap (trailing_zeros w16) f ∙ trailing_of_zero 16 in
    record {
      before = λ i under within. elim (leb_tells 128 i) [
        | inl above ↦ flag_at_high low high i above.1 ∙ ap (λ w. bit_at w (i - 128) == 1) f ∙ ap (λ d. d == 1) (bit_at-zero (i - 128))
        | inr small ↦ no_low low high i e small.1
      ];
      here = λ within. absurd (omega (arith, beyond, within));
    }

first_flag-some : (low high : ℕ) → low ≡ 0 → high ≢ 0 → high < 2 ^ 9 → IsFirstFlag low high (128 + trailing_zeros w16 high)
first_flag-some low high e some below =
    let narrow : high < 2 ^ 16 = omega arith in
    let place = bit_at-trailing_zeros w16 high (omega (arith, some)) narrow in
    let back : 128 + trailing_zeros w16 high - 128 ≡ trailing_zeros w16 high = omega arith in
    record {
      before = λ i under within. elim (leb_tells 128 i) [
        | inl above ↦
            let less : i - 128 < trailing_zeros w16 high = omega (arith, under, above.1) in
            flag_at_high low high i above.1 ∙ ap (λ d. d == 1) (place.2 (i - 128) less)
        | inr small ↦ no_low low high i e small.1
      ];
      here = λ within. flag_at_high low high (128 + trailing_zeros w16 high) (omega arith)
          ∙ ap (λ j. bit_at high j == 1) back ∙ ap (λ d. d == 1) place.1;
    }

pub first_flag-high : (low high : ℕ) → low ≡ 0 → high < 2 ^ 9 → IsFirstFlag low high (128 + trailing_zeros w16 high)
first_flag-high low high e below =
    elim (eqb_tells high 0) [
      | inl empty ↦ first_flag-none low high e empty.1
      | inr some ↦ first_flag-some low high e some.1 below
    ]

-- o is the kind with the number m
pub record IsKindAt (m : ℕ) (o : Option SyntaxKind) : Type 0 where
  pub of_its_number : (k : SyntaxKind) → number_of k ≡ m → o ≡ Some k
  pub none : IsNone o ↔ (137 ≤ m)

number-found : (m : ℕ) (x : SyntaxKind) → IsKindAt m (Some x) → number_of x ≡ m
number-found m x at =
    elim (leb_tells 137 m) [
      | inl above ↦ let gone : true ≡ false = at.none.1 above.1 in cc
      | inr below ↦
          let found = kind_numbered m below.1 in
          let same : Some x ≡ Some found.0 = at.of_its_number found.0 found.1 in
          let is : x ≡ found.0 = cc in ap number_of is ∙ found.1
    ]

module _ (s : List Bool) (low high m : ℕ) (view : flags 137 (high * 2 ^ 128 + low) ≡ s) (below : low < 2 ^ 128) (first : IsFirstFlag low high m) where
  pub first-none : (o : Option SyntaxKind) → IsKindAt m o → IfNone o ((k : SyntaxKind) → holds s k ≡ false)
  first-none None at = λ k.
      let beyond : 137 ≤ m = at.none.0 refl in
      let within : number_of k < 137 = number_of-lt k in
      holds-words s low high view below k ∙ first.before (number_of k) (omega arith) within
  first-none (Some x) at = tt

  pub first-held : (o : Option SyntaxKind) → IsKindAt m o → IfSome o (λ x. IsTrue (holds s x))
  first-held None at = tt
  first-held (Some x) at =
      let e : number_of x ≡ m = number-found m x at in
      let within : m < 137 = omega (arith, number_of-lt x) in
      holds-words s low high view below x ∙ ap (flag_at low high) e ∙ first.here within

  pub first-lowest : (o : Option SyntaxKind) → IsKindAt m o → IfSome o (λ x. (k : SyntaxKind) → number_of k < number_of x → holds s k ≡ false)
  first-lowest None at = tt
  first-lowest (Some x) at = λ k under.
      let e : number_of x ≡ m = number-found m x at in
      holds-words s low high view below k ∙ first.before (number_of k) (omega arith) (number_of-lt k)

-- ---- how many kinds

pub at_most_137_kinds : (s : List Bool) → length (kinds_in s) ≤ 137
at_most_137_kinds s =
    omega (arith, length-all_kinds, length-filter_both (holds s) (λ k. not (holds s k)) (λ _. refl) all_kinds)

length-cond : (b : Bool) (x : SyntaxKind) (xs : List SyntaxKind) (d m : ℕ) → d < 2 → b ≡ (d == 1) → length xs ≡ m → length (cond b (x ∷ xs) xs) ≡ d + m
length-cond false x xs d m small e f = grind (arith, nat_tests)
length-cond true x xs d m small e f = grind (arith, nat_tests)

half : (n w : ℕ) → w < 2 ^ suc n → w / 2 < 2 ^ n
half n w small = omega arith

-- a filter by the digits of a number keeps as many kinds as the number has ones
length-filter : (p : SyntaxKind → Bool) (n w : ℕ) (xs : List SyntaxKind) → map number_of xs ≡ range_with_len n (length xs) → w < 2 ^ length xs → ((i : ℕ) (k : SyntaxKind) → number_of k ≡ n + i → p k ≡ (bit_at w i == 1)) → length (filter p xs) ≡ ones w
length-filter p n w [] e small digit = let none : ones w ≤ 0 = ones-le 0 w small in omega arith
length-filter p n w (x ∷ xs) e small digit =
    let head : number_of x ≡ n = cc in
    let tail : map number_of xs ≡ range_with_len (n + 1) (length xs) = cc in
    let lowest : p x ≡ (w % 2 == 1) = digit 0 x (omega arith) ∙ ap (λ d. d == 1) (bit_at_lowest w) in
    let rest : length (filter p xs) ≡ ones (w / 2) =
    length-filter p (n + 1) (w / 2) xs tail (half (length xs) w small) (λ i k at. digit (suc i) k (omega arith) ∙ ap (λ d. d == 1) (bit_at-suc w i)) in
    length-cond (p x) x (filter p xs) (w % 2) (ones (w / 2)) (omega arith) lowest rest ∙ sym (ones_step w)

pub length-kinds_in : (s : List Bool) (low high : ℕ) → flags 137 (high * 2 ^ 128 + low) ≡ s → low < 2 ^ 128 → high < 2 ^ 9 → ones low + ones high ≡ length (kinds_in s)
length-kinds_in s low high e below above =
    let word = high * 2 ^ 128 + low in
    let fits : word < 2 ^ 137 = omega arith in
    let digit : (i : ℕ) (k : SyntaxKind) → number_of k ≡ 0 + i → holds s k ≡ (bit_at word i == 1) = λ i k at.
    let place : number_of k ≡ i = omega (arith, at) in
    ap (λ t. get_or t (number_of k) false) (sym e) ∙ flags-get 137 word (number_of k) (number_of-lt k)
    ∙ ap (λ j. bit_at word j == 1) place in
    let all : length (kinds_in s) ≡ ones word = length-filter (holds s) 0 word all_kinds numbers (rw length-all_kinds fits) digit in
    omega (arith, all, ones_cat 128 high low below)
