-- Values of hexadecimal digits that are cut at a limit while they are read.
use Rattle.std.proofs.Common.{◌≡◌, ℕ, ◌+◌, ◌*◌, ◌≤◌, inl, inr, min, true, false, cond, List, [], ◌∷◌, arith, ap, sym, ◌∙◌}
use Rattle.std.specs.Char.{is_digit, digit_value}
use Rattle.std.specs.List.{take_while}
use Rattle.std.specs.Str.Parse.{digits_value, digits_value_after}
use Rattle.std.proofs.lemmas.List.Sums.{take_while-cons}
use Rattle.std.proofs.lemmas.Bool.{cases_lt}
use Rattle.std.proofs.lemmas.Bool.Decides.{nat_tests}
use Rattle.typst_lexer.specs.Characters.{is_code}
use Rattle.typst_lexer.specs.HexValues.{capped_value}

-- it is the value of the digits, cut at the limit
capped_after : (n : ℕ) (bs : List ℕ) → capped_value (min n 0x11_0000) bs ≡ min 0x11_0000 (digits_value_after 16 n (take_while (λ b. is_digit b 16) bs))
capped_after n [] = omega arith
capped_after n (c ∷ cs) =
    let more : min (min n 0x11_0000 * 16 + digit_value c) 0x11_0000 ≡ min (n * 16 + digit_value c) 0x11_0000 = omega arith in
    let rest = capped_after (n * 16 + digit_value c) cs in
    let stop : min n 0x11_0000 ≡ min 0x11_0000 n = omega arith in
    rw take_while-cons
    (elim (is_digit c 16) as (λ b. cond b (capped_value (min (min n 0x11_0000 * 16 + digit_value c) 0x11_0000) cs) (min n 0x11_0000) ≡ min 0x11_0000 (digits_value_after 16 n (cond b (c ∷ take_while (λ b. is_digit b 16) cs) []))) [
      | true ↦ ap (λ m. capped_value m cs) more ∙ rest
      | false ↦ stop
    ])

pub capped_is : (bs : List ℕ) → capped_value 0 bs ≡ min 0x11_0000 (digits_value 16 (take_while (λ b. is_digit b 16) bs))
capped_is bs = capped_after 0 bs

past_codes : (n : ℕ) → 0x11_0000 ≤ n → is_code n ≡ false
past_codes n h = grind (arith, nat_tests)

-- what is cut at the limit is the code of a character exactly if the whole number is
pub capped_is_code : (n : ℕ) → is_code (min 0x11_0000 n) ≡ is_code n
capped_is_code n = elim (cases_lt n 0x11_0000) as (λ _. is_code (min 0x11_0000 n) ≡ is_code n) [
  | inl less ↦ (let e : min 0x11_0000 n ≡ n = omega arith in ap is_code e)
  | inr past ↦ (let e : min 0x11_0000 n ≡ 0x11_0000 = omega arith in ap is_code e ∙ sym (past_codes n past))
]
