-- How far a column moves.
use Rattle.std.proofs.Common.{◌≡◌, ◌≢◌, ℕ, ◌+◌, ◌<◌, ◌≤◌, true, false, List, length, take, get_or, ap, arith, sum_by, ⊎_elim}
use Rattle.std.specs.Str.{IsCharBoundary}
use Rattle.std.proofs.lemmas.List.{take-take}
use Rattle.std.proofs.lemmas.List.Sums.{sum_by-take-le, sum_by_more}
use Rattle.std.proofs.lemmas.Bool.{cases_lt}
use Rattle.std.proofs.lemmas.Bool.Decides.{nat_tests}
use Rattle.typst_lines.specs.Columns.{width, goes_on}
use Rattle.typst_lines.specs.declared.column.ColumnUnit.{ColumnUnit}
use Rattle.typst_lines.specs.declared.column.ColumnUnit.TheVariants.{Byte, Character, Utf16}

-- a column grows along a line
pub sum-grows : (f : ℕ → ℕ) (xs : List ℕ) (i j : ℕ) → i ≤ j → sum_by f (take i xs) ≤ sum_by f (take j xs)
sum-grows f xs i j le = omega (arith, sum_by-take-le f (take j xs) i, ap (sum_by f) (take-take i j xs le))

-- a byte that goes on is before no place
goes_on-apart : (xs : List ℕ) (at : ℕ) → at < length xs → goes_on (get_or xs at 0) ≡ true → IsCharBoundary xs at → ⊥
goes_on-apart xs at less e h =
    let low : 128 ≤ get_or xs at 0 = grind (arith, nat_tests) in
    let high : get_or xs at 0 < 192 = grind (arith, nat_tests) in
    let lead = h.1 less low in
    absurd (omega arith)

-- no place up to here has the column
pub none_here : (unit : ColumnUnit) (xs : List ℕ) (at left column k : ℕ) → at < length xs → left + sum_by (width unit) (take at xs) ≡ column → ((j : ℕ) → j < at → IsCharBoundary xs j → sum_by (width unit) (take j xs) ≢ column) → (left ≡ 0 → goes_on (get_or xs at 0) ≡ true) → k < at + 1 → IsCharBoundary xs k → sum_by (width unit) (take k xs) ≢ column
none_here unit xs at left column k less passed none here high h e =
    ⊎_elim
    (λ l. none k l h e)
    (λ g.
    let same : k ≡ at = omega arith in
    let sums = ap (λ j. sum_by (width unit) (take j xs)) same in
    let z : left ≡ 0 = omega arith in
    goes_on-apart xs at less (here z) (rw same at h))
    (cases_lt k at)

-- and none after it, if the next byte goes past it
pub none_there : (unit : ColumnUnit) (xs : List ℕ) (at left column k : ℕ) → at < length xs → left + sum_by (width unit) (take at xs) ≡ column → ((j : ℕ) → j < at → IsCharBoundary xs j → sum_by (width unit) (take j xs) ≢ column) → (left ≡ 0 → goes_on (get_or xs at 0) ≡ true) → left < width unit (get_or xs at 0) → IsCharBoundary xs k → sum_by (width unit) (take k xs) ≢ column
none_there unit xs at left column k less passed none here past h e =
    ⊎_elim
    (λ l. none_here unit xs at left column k less passed none here l h e)
    (λ g. absurd (omega (arith, sum-grows (width unit) xs (at + 1) k g, sum_by_more (width unit) xs at 0 less)))
    (cases_lt k (at + 1))

-- a character where a place is moves the column
width-some : (unit : ColumnUnit) (b : ℕ) → goes_on b ≡ false → 1 ≤ width unit b
width-some Byte b e = omega arith
width-some Character b e = rw e (omega arith)
width-some Utf16 b e = rw e (grind (arith, nat_tests))

begins_here : (xs : List ℕ) (k : ℕ) → k < length xs → IsCharBoundary xs k → goes_on (get_or xs k 0) ≡ false
begins_here xs k less h = lead (get_or xs k 0) (h.1 less)
  where
    lead : (b : ℕ) → (128 ≤ b → 192 ≤ b) → goes_on b ≡ false
    lead b f = grind (arith, nat_tests)

pub sum-rises : (unit : ColumnUnit) (xs : List ℕ) (k n : ℕ) → k < n → n ≤ length xs → IsCharBoundary xs k → sum_by (width unit) (take k xs) < sum_by (width unit) (take n xs)
sum-rises unit xs k n less le h =
    let within : k < length xs = omega arith in
    let some = width-some unit (get_or xs k 0) (begins_here xs k within h) in
    let low : k + 1 ≤ n = omega arith in
    omega (arith, sum-grows (width unit) xs (k + 1) n low, sum_by_more (width unit) xs k 0 within)
