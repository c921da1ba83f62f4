-- Values of digits that are cut at a limit while they are read.
use Rattle.std.proofs.Common.{◌≡◌, ℕ, ◌+◌, ◌*◌, ◌≤◌, inl, inr, min, true, false, cond, List, [], ◌∷◌, arith, ap, ◌∙◌}
use Rattle.std.specs.Prelude.{◌^◌, nat_lt}
use Rattle.std.specs.Char.{is_digit, digit_value}
use Rattle.std.specs.List.{take_while}
use Rattle.std.specs.Str.Parse.{digits_value, digits_value_after}
use Rattle.std.proofs.lemmas.List.Sums.{take_while-cons}
use Rattle.std.proofs.lemmas.Bool.{cases_lt}
use Rattle.std.proofs.lemmas.Nat.{mul-le}
use Rattle.std.proofs.lemmas.Bool.Decides.{nat_tests}
use Rattle.typst_lexer.specs.Numbers.{digits_of}
use Rattle.typst_lexer.specs.CappedDigits.{capped_digits}

-- a number is at most what it makes with one more digit
grows : (n base d : ℕ) → 1 ≤ base → n ≤ n * base + d
grows n base d some = let same : n ≤ n = omega arith in omega (arith, mul-le n 1 n base same some)

-- cut before one more digit and after it, or after it alone
cut_twice : (n base d : ℕ) → 1 ≤ base → min (min n (2 ^ 63) * base + d) (2 ^ 63) ≡ min (n * base + d) (2 ^ 63)
cut_twice n base d some = elim (cases_lt n (2 ^ 63)) as (λ _. min (min n (2 ^ 63) * base + d) (2 ^ 63) ≡ min (n * base + d) (2 ^ 63)) [
  | inl less ↦ (let e : min n (2 ^ 63) ≡ n = omega arith in ap (λ m. min (m * base + d) (2 ^ 63)) e)
  | inr past ↦
      (let e : min n (2 ^ 63) ≡ 2 ^ 63 = omega arith in
      let left = grows (2 ^ 63) base d some in
      let right = grows n base d some in
      let cut : min (2 ^ 63 * base + d) (2 ^ 63) ≡ min (n * base + d) (2 ^ 63) = omega arith in
      ap (λ m. min (m * base + d) (2 ^ 63)) e ∙ cut)
]

-- it is the value of the digits, cut at the limit
capped_after : (base n : ℕ) (bs : List ℕ) → 1 ≤ base → capped_digits base (min n (2 ^ 63)) bs ≡ min (digits_value_after base n (digits_of base bs)) (2 ^ 63)
capped_after base n [] some = omega arith
capped_after base n (c ∷ cs) some =
    let more = cut_twice n base (digit_value c) some in
    let rest = capped_after base (n * base + digit_value c) cs some in
    rw take_while-cons
    (elim (is_digit c base) as (λ b. cond b (capped_digits base (min (min n (2 ^ 63) * base + digit_value c) (2 ^ 63)) cs) (min n (2 ^ 63)) ≡ min (digits_value_after base n (cond b (c ∷ take_while (λ b. is_digit b base) cs) [])) (2 ^ 63)) [
      | true ↦ ap (λ m. capped_digits base m cs) more ∙ rest
      | false ↦ omega arith
    ])

capped_is : (base : ℕ) (bs : List ℕ) → 1 ≤ base → capped_digits base 0 bs ≡ min (digits_value base (digits_of base bs)) (2 ^ 63)
capped_is base bs some = capped_after base 0 bs some

below_both : (n : ℕ) → nat_lt (min n (2 ^ 63)) (2 ^ 63) ≡ nat_lt n (2 ^ 63)
below_both n = grind (arith, nat_tests)

-- what is cut at the limit is a whole number exactly if the number is
pub capped_is_whole : (base : ℕ) (bs : List ℕ) → 2 ≤ base → nat_lt (capped_digits base 0 bs) (2 ^ 63) ≡ nat_lt (digits_value base (digits_of base bs)) (2 ^ 63)
capped_is_whole base bs some =
    let one : 1 ≤ base = omega arith in
    ap (λ n. nat_lt n (2 ^ 63)) (capped_is base bs one) ∙ below_both (digits_value base (digits_of base bs))
