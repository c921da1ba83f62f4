-- Halving takes one binary digit.
use Rattle.std.proofs.Common.{suc, zero, ℕ, ◌+◌, ◌/◌, ◌<◌, ◌≤◌, ◌^◌, arith, subst}
use Rattle.std.specs.Int.Digits.{digits_of}
use Rattle.std.proofs.lemmas.Int.Digits.{length-digits_of-le, length-digits_of_step, number_lt, all_below_base_digits_of, number_digits_of}
use Rattle.typst_node.specs.BinaryDigits.{binary_digits}

below_power : (n : ℕ) → n < 2 ^ binary_digits n
below_power n = subst (λ (k : ℕ). k < 2 ^ binary_digits n) (number_digits_of 2 n (omega arith)) (number_lt 2 (digits_of 2 n) (all_below_base_digits_of 2 n (omega arith)))

pub digits_rise : (m n : ℕ) → m ≤ n → binary_digits m ≤ binary_digits n
digits_rise m n h = length-digits_of-le 2 (binary_digits n) m (omega arith) (omega (arith, below_power n))

-- what is left of n places after one look has a digit less
pub digits_half : (m n : ℕ) → 0 < n → m ≤ n / 2 → binary_digits m + 1 ≤ binary_digits n
digits_half m n p h = omega (arith, length-digits_of_step 2 n (omega arith) p, digits_rise m (n / 2) h)

n_below_power : (n : ℕ) → n < 2 ^ n
n_below_power zero = omega arith
n_below_power (suc n) = omega (arith, n_below_power n)

pub digits_most : (n : ℕ) → binary_digits n ≤ n
digits_most n = length-digits_of-le 2 n n (omega arith) (n_below_power n)
