-- Values of hexadecimal digits that are cut at a limit while they are read.
use Rattle.std.proofs.Common.{◌≡◌, ℕ, ◌+◌, ◌*◌, min, true, false, cond, List, [], ◌∷◌, arith, ap, ◌∙◌}
use Rattle.std.specs.Char.{is_digit, digit_value}
use Rattle.std.specs.Str.Parse.{digits_value, digits_value_after}
use Rattle.std.proofs.lemmas.List.Sums.{take_while-cons}
use Rattle.typst_atoms.specs.CodePoints.{hex_run}
use Rattle.typst_atoms.specs.HexValues.{capped_value}

-- it is the value of the digits, cut at the limit
capped_after : (n : ℕ) (bs : List ℕ) → capped_value (min n 0x11_0000) bs ≡ min 0x11_0000 (digits_value_after 16 n (hex_run bs))
capped_after n [] = omega arith
capped_after n (c ∷ cs) =
    let more : min (min n 0x11_0000 * 16 + digit_value c) 0x11_0000 ≡ min (n * 16 + digit_value c) 0x11_0000 = omega arith in
    let rest = capped_after (n * 16 + digit_value c) cs in
    let stop : min n 0x11_0000 ≡ min 0x11_0000 n = omega arith in
    rw take_while-cons
    (elim (is_digit c 16) as (λ b. cond b (capped_value (min (min n 0x11_0000 * 16 + digit_value c) 0x11_0000) cs) (min n 0x11_0000) ≡ min 0x11_0000 (digits_value_after 16 n (cond b (c ∷ hex_run cs) []))) [
      | true ↦ ap (λ m. capped_value m cs) more ∙ rest
      | false ↦ stop
    ])

pub capped_is : (bs : List ℕ) → capped_value 0 bs ≡ min 0x11_0000 (digits_value 16 (hex_run bs))
capped_is bs = capped_after 0 bs
