-- What the two words of a set say of its kinds.
use Rattle.std.proofs.Common.{◌≡◌, ℕ, zero, suc, ◌+◌, ◌-◌, ◌*◌, ◌/◌, ◌%◌, ◌^◌, ◌<◌, ◌≤◌, ◌≢◌, ◌==◌, ◌||◌, ◌&&◌, not, nat_lt, Bool, false, get_or, max, min, refl, ap, sym, ◌∙◌, List, arith, bit_or, bit_and, lit<, if◌then◌else◌, inl, inr, one-mul, mod-eq_of_lt, mod-lt}
use Rattle.std.specs.Int.{bit_at, bit_not, Width, w128, w16}
use mir.Val.{bits}
use Rattle.std.proofs.lemmas.Nat.{and_le_l, or_lt}
use Rattle.std.proofs.lemmas.Bool.Decides.{nat_tests, leb_tells, eqb_tells}
use Rattle.std.proofs.lemmas.Nat.Bits.{bit_at-lt, bit_at_lowest, bit_at-suc, bit_at-zero, bit_at_or, bit_at_and, bit_at_not, bit_at-pow_same, bit_at-pow_other, bit_at_cat_low, bit_at_cat_high, shr_and_one}
use Rattle.std.proofs.Math.Pow.{pow-lt}
use Rattle.typst_base.specs.Flags.{flags}
use Rattle.typst_base.specs.KindNumber.{number_of}
use Rattle.typst_base.specs.KindSet.{holds, is_kind}
use Rattle.typst_base.specs.declared.kind.SyntaxKind.{SyntaxKind}
use Rattle.typst_base.specs.declared.kind.SyntaxKind.TheVariants.{End}

-- a flag is a digit of the number
pub flags-get : (n w i : ℕ) → i < n → get_or (flags n w) i false ≡ (bit_at w i == 1)
unfolding flags
flags-get zero w i below = absurd (omega arith)
flags-get (suc n) w zero below = ap (λ d. d == 1) (sym (bit_at_lowest w))
flags-get (suc n) w (suc i) below =
    let within : i < n = omega arith in flags-get n (w / 2) i within ∙ ap (λ d. d == 1) (sym (bit_at-suc w i))

pub number_of-lt : (k : SyntaxKind) → number_of k < 137
number_of-lt End = lit< tt
number_of-lt _ = lit< tt

-- the digit of two words at a place
unfoldable pub flag_at : ℕ → ℕ → ℕ → Bool
flag_at low high i = if nat_lt i 128 then bit_at low i == 1 else (bit_at high (i - 128) == 1)

pub flag_at_low : (low high i : ℕ) → i < 128 → flag_at low high i ≡ (bit_at low i == 1)
unfolding flag_at
flag_at_low low high i below = grind (arith, nat_tests)

pub flag_at_high : (low high i : ℕ) → 128 ≤ i → flag_at low high i ≡ (bit_at high (i - 128) == 1)
unfolding flag_at
flag_at_high low high i above = grind (arith, nat_tests)

pub flags-flag_at : (low high i : ℕ) → low < 2 ^ 128 → i < 137 → get_or (flags 137 (high * 2 ^ 128 + low)) i false ≡ flag_at low high i
flags-flag_at low high i below within =
    flags-get 137 (high * 2 ^ 128 + low) i within
    ∙ elim (leb_tells 128 i) [
      | inl above ↦ ap (λ d. d == 1) (bit_at_cat_high high 128 low i below above.1) ∙ sym (flag_at_high low high i above.1)
      | inr under ↦ ap (λ d. d == 1) (bit_at_cat_low high 128 low i under.1) ∙ sym (flag_at_low low high i under.1)
    ]

or-digits : (x y z : ℕ) → x < 2 → y < 2 → z ≡ max x y → (z == 1) ≡ ((x == 1) || (y == 1))
or-digits x y z a b e = grind (arith, nat_tests)

digit-or : (a b i : ℕ) → (bit_at (bit_or a b) i == 1) ≡ ((bit_at a i == 1) || (bit_at b i == 1))
digit-or a b i = or-digits (bit_at a i) (bit_at b i) (bit_at (bit_or a b) i) (bit_at-lt a i) (bit_at-lt b i) (bit_at_or a b i)

pub flag_at-or : (a b c d i : ℕ) → flag_at (bit_or a c) (bit_or b d) i ≡ (flag_at a b i || flag_at c d i)
flag_at-or a b c d i =
    elim (leb_tells 128 i) [
      | inl above ↦ cc (flag_at_high a b i above.1, flag_at_high c d i above.1, flag_at_high (bit_or a c) (bit_or b d) i above.1, digit-or b d (i - 128))
      | inr under ↦ cc (flag_at_low a b i under.1, flag_at_low c d i under.1, flag_at_low (bit_or a c) (bit_or b d) i under.1, digit-or a c i)
    ]

without-digits : (x y z t : ℕ) → x < 2 → y < 2 → t ≡ 1 - y → z ≡ min x t → (z == 1) ≡ ((x == 1) && not (y == 1))
without-digits x y z t a b e f = grind (arith, nat_tests)

digit-without : (w : Width) (a b i : ℕ) → b < 2 ^ bits w → i < bits w → (bit_at (bit_and a (bit_not w b)) i == 1) ≡ ((bit_at a i == 1) && not (bit_at b i == 1))
digit-without w a b i below within =
    without-digits (bit_at a i) (bit_at b i) _ _ (bit_at-lt a i) (bit_at-lt b i) (bit_at_not w b i below within) (bit_at_and a (bit_not w b) i)

pub flag_at-without : (a b c d i : ℕ) → c < 2 ^ 128 → d < 2 ^ 16 → i < 137 → flag_at (bit_and a (bit_not w128 c)) (bit_and b (bit_not w16 d)) i ≡ (flag_at a b i && not (flag_at c d i))
flag_at-without a b c d i small little within =
    elim (leb_tells 128 i) [
      | inl above ↦ let place : i - 128 < 16 = omega (arith, above.1) in
          cc (flag_at_high a b i above.1, flag_at_high c d i above.1, flag_at_high (bit_and a (bit_not w128 c)) (bit_and b (bit_not w16 d)) i above.1, digit-without w16 b d (i - 128) little place)
      | inr under ↦ cc (flag_at_low a b i under.1, flag_at_low c d i under.1, flag_at_low (bit_and a (bit_not w128 c)) (bit_and b (bit_not w16 d)) i under.1, digit-without w128 a c i small under.1)
    ]

one-digit : (n i : ℕ) → (bit_at (2 ^ n) i == 1) ≡ (n == i)
one-digit n i =
    elim (eqb_tells n i) [
      | inl same ↦ let e : bit_at (2 ^ n) i ≡ 1 = cc (bit_at-pow_same n, same.1) in ap (λ d. d == 1) e ∙ sym same.0
      | inr other ↦ let ne : i ≢ n = λ e. other.1 (sym e) in ap (λ d. d == 1) (bit_at-pow_other n i ne) ∙ sym other.0
    ]

no-digit : (i : ℕ) → (bit_at 0 i == 1) ≡ false
no-digit i = ap (λ d. d == 1) (bit_at-zero i)

pub flag_at-only_low : (n i : ℕ) → n < 128 → flag_at (2 ^ n) 0 i ≡ (n == i)
flag_at-only_low n i low =
    elim (leb_tells 128 i) [
      | inl above ↦ let apart : (n == i) ≡ false = grind (arith, nat_tests, above.1) in
          flag_at_high (2 ^ n) 0 i above.1 ∙ no-digit (i - 128) ∙ sym apart
      | inr under ↦ flag_at_low (2 ^ n) 0 i under.1 ∙ one-digit n i
    ]

shifted : (n i : ℕ) → 128 ≤ n → 128 ≤ i → (n - 128 == i - 128) ≡ (n == i)
shifted n i a b = grind (arith, nat_tests)

pub flag_at-only_high : (n i : ℕ) → 128 ≤ n → flag_at 0 (2 ^ (n - 128)) i ≡ (n == i)
flag_at-only_high n i high =
    elim (leb_tells 128 i) [
      | inl above ↦ flag_at_high 0 (2 ^ (n - 128)) i above.1 ∙ one-digit (n - 128) (i - 128) ∙ shifted n i high above.1
      | inr under ↦ let apart : (n == i) ≡ false = grind (arith, nat_tests, under.1) in
          flag_at_low 0 (2 ^ (n - 128)) i under.1 ∙ no-digit i ∙ sym apart
    ]

pub flag_at-none : (i : ℕ) → flag_at 0 0 i ≡ false
flag_at-none i =
    elim (leb_tells 128 i) [
      | inl above ↦ flag_at_high 0 0 i above.1 ∙ no-digit (i - 128)
      | inr under ↦ flag_at_low 0 0 i under.1 ∙ no-digit i
    ]

-- the flags that two words stand for, at a kind
pub holds-words : (set : List Bool) (low high : ℕ) → flags 137 (high * 2 ^ 128 + low) ≡ set → low < 2 ^ 128 → (k : SyntaxKind) → holds set k ≡ flag_at low high (number_of k)
holds-words set low high e below k =
    ap (λ s. get_or s (number_of k) false) (sym e) ∙ flags-flag_at low high (number_of k) below (number_of-lt k)

shifted_one : (n w : ℕ) → n < w → 1 * 2 ^ n % 2 ^ w ≡ 2 ^ n
shifted_one n w within = rw (one-mul (2 ^ n)) (mod-eq_of_lt (pow-lt within))

-- `1 << n` in the low word
pub holds-only_low : (kind : SyntaxKind) (n : ℕ) → n ≡ number_of kind → n < 128 → (k : SyntaxKind) → holds (flags 137 (0 * 2 ^ 128 + 1 * 2 ^ n % 2 ^ 128)) k ≡ is_kind kind k
holds-only_low kind n e low k =
    let one = shifted_one n 128 low in
    let small : 1 * 2 ^ n % 2 ^ 128 < 2 ^ 128 = mod-lt (1 * 2 ^ n) (lit< tt) in
    holds-words _ _ 0 refl small k ∙ ap (λ w. flag_at w 0 (number_of k)) one ∙ flag_at-only_low n (number_of k) low
    ∙ ap (λ m. m == number_of k) e

-- `1 << n - 128` in the high word
pub holds-only_high : (kind : SyntaxKind) (n : ℕ) → n ≡ number_of kind → 128 ≤ n → n < 137 → (k : SyntaxKind) → holds (flags 137 (1 * 2 ^ (n - 128) % 2 ^ 16 * 2 ^ 128 + 0)) k ≡ is_kind kind k
holds-only_high kind n e high within k =
    let place : n - 128 < 16 = omega arith in
    let one = shifted_one (n - 128) 16 place in
    holds-words _ 0 _ refl (lit< tt) k ∙ ap (λ w. flag_at 0 w (number_of k)) one ∙ flag_at-only_high n (number_of k) high
    ∙ ap (λ m. m == number_of k) e

-- the test `low >> n & 1 == 1`
pub test-low : (low high n i : ℕ) → n ≡ i → n < 128 → (bit_and (low / 2 ^ n) 1 == 1) ≡ flag_at low high i
test-low low high n i e within =
    let small : i < 128 = omega arith in
    ap (λ d. d == 1) (shr_and_one low n) ∙ ap (λ j. bit_at low j == 1) e ∙ sym (flag_at_low low high i small)

pub test-high : (low high n i : ℕ) → n ≡ i → 128 ≤ n → (bit_and (high / 2 ^ (n - 128)) 1 == 1) ≡ flag_at low high i
test-high low high n i e above =
    let large : 128 ≤ i = omega arith in
    ap (λ d. d == 1) (shr_and_one high (n - 128)) ∙ ap (λ j. bit_at high (j - 128) == 1) e ∙ sym (flag_at_high low high i large)

both : (x y z w : Bool) → x ≡ y → z ≡ w → (y || w) ≡ (x || z)
both x y z w e f = cc

-- the digits of one set or of the other
pub holds-or : (s t : List Bool) (a b c d : ℕ) → flags 137 (b * 2 ^ 128 + a) ≡ s → a < 2 ^ 128 → flags 137 (d * 2 ^ 128 + c) ≡ t → c < 2 ^ 128 → (k : SyntaxKind) → holds (flags 137 (bit_or b d * 2 ^ 128 + bit_or a c)) k ≡ (holds s k || holds t k)
holds-or s t a b c d e small f little k =
    holds-words _ _ _ refl (or_lt 128 a c small little) k
    ∙ flag_at-or a b c d (number_of k)
    ∙ both _ _ _ _ (holds-words s a b e small k) (holds-words t c d f little k)

pub less : (x y z w : Bool) → x ≡ y → z ≡ w → (y && not w) ≡ (x && not z)
less x y z w e f = cc

-- the digits of one set without those of the other
pub holds-without : (s t : List Bool) (a b c d : ℕ) → flags 137 (b * 2 ^ 128 + a) ≡ s → a < 2 ^ 128 → flags 137 (d * 2 ^ 128 + c) ≡ t → c < 2 ^ 128 → d < 2 ^ 9 → (k : SyntaxKind) → holds (flags 137 (bit_and b (bit_not w16 d) * 2 ^ 128 + bit_and a (bit_not w128 c))) k ≡ (holds s k && not (holds t k))
holds-without s t a b c d e small f little few k =
    let narrow : d < 2 ^ 16 = omega arith in
    let fits : bit_and a (bit_not w128 c) < 2 ^ 128 = omega (arith, and_le_l a (bit_not w128 c)) in
    holds-words _ _ _ refl fits k
    ∙ flag_at-without a b c d (number_of k) little narrow (number_of-lt k)
    ∙ less _ _ _ _ (holds-words s a b e small k) (holds-words t c d f little k)
