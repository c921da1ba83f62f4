-- Lists of flags as numbers. The lemmas stand here since the laws of a trait cite them.
use Rattle.std.specs.Prelude.{ℕ, ◌≡◌, ◌+◌, ◌*◌, ◌/◌, ◌%◌, ◌^◌, ◌<◌, ◌==◌, Bool, List, [], ◌∷◌, if◌then◌else◌}
use Rattle.std.proofs.Common.{zero, suc, arith}
use Rattle.std.proofs.lemmas.Bool.Decides.{nat_tests}

-- the lowest n binary digits of a number, the lowest first
unfoldable pub flags : ℕ → ℕ → List Bool
flags zero w = []
flags (suc n) w = (w % 2 == 1) ∷ flags n (w / 2)

-- the number with these binary digits
unfoldable pub flags_number : List Bool → ℕ
flags_number [] = 0
flags_number (b ∷ bs) = (if b then 1 else 0) + 2 * flags_number bs

digit : (w : ℕ) → (if w % 2 == 1 then 1 else 0) ≡ w % 2
digit w = grind (arith, nat_tests)

half : (n w : ℕ) → w < 2 ^ suc n → w / 2 < 2 ^ n
half n w below = omega arith

-- the digits of a number give back the number
pub flags_number-flags : (n w : ℕ) → w < 2 ^ n → flags_number (flags n w) ≡ w
unfolding flags flags_number
flags_number-flags zero w below = omega arith
flags_number-flags (suc n) w below =
    omega (arith, digit w, flags_number-flags n (w / 2) (half n w below))

-- the digits of two words give back the low word
pub low_word : (low high : ℕ) → low < 2 ^ 128 → high < 2 ^ 9 → flags_number (flags 137 (high * 2 ^ 128 + low)) % 2 ^ 128 ≡ low
low_word low high below above =
    let fits : high * 2 ^ 128 + low < 2 ^ 137 = omega arith in
    omega (arith, flags_number-flags 137 (high * 2 ^ 128 + low) fits)

-- the digits of two words give back the high word
pub high_word : (low high : ℕ) → low < 2 ^ 128 → high < 2 ^ 9 → flags_number (flags 137 (high * 2 ^ 128 + low)) / 2 ^ 128 ≡ high
high_word low high below above =
    let fits : high * 2 ^ 128 + low < 2 ^ 137 = omega arith in
    omega (arith, flags_number-flags 137 (high * 2 ^ 128 + low) fits)
