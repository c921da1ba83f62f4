-- How soon the first window is found, and when there is none.
use Rattle.std.proofs.Common.{◌≡◌, ℕ, suc, zero, ◌+◌, ◌-◌, ◌*◌, ◌^◌, ◌<◌, ◌≤◌, ◌⊎◌, inl, inr, [], length, max, take, ap, subst, arith, below_more}
use Rattle.std.proofs.lemmas.Bool.{cases_order}
use Rattle.std.proofs.lemmas.List.{drop_all}
use Rattle.std.proofs.Math.Pow.{pow-lt}
use Rattle.std.specs.Int.Digits.{digits_of}
use Rattle.std.proofs.lemmas.Int.Digits.{number_lt, all_below_base_digits_of, number_digits_of}
use Rattle.typst_node.specs.BinaryDigits.{binary_digits}
use Rattle.typst_node.specs.Count.{count_of_all}
use Rattle.typst_node.specs.OpenNumbers.{open_from, open_to}
use Rattle.typst_node.specs.Window.{Site, width, trees_in, trees_before, trees_behind}
use Rattle.typst_node.specs.WindowNumbers.{open_count}
use Rattle.typst_node.specs.Room.{HasRoom, new_count}
use Rattle.typst_node.specs.FirstWindow.{HoldsAll, IsFirst, HasNoFirst, IsFoundSoon, IsCrowded}
use Rattle.typst_node.proofs.Opens.{fewer_in}

-- a window with this many neighbours on each side holds all
holds_power : (s : Site) (d : ℕ) → max (length s.before) (length s.behind) < 2 ^ d → HoldsAll s (width (suc d))
holds_power s d h = (omega arith, omega arith)

-- a number is below the power of two with as many digits
below_digits : (n : ℕ) → n < 2 ^ binary_digits n
below_digits n = subst (λ (k : ℕ). k < 2 ^ binary_digits n) (number_digits_of 2 n (omega arith)) (number_lt 2 (digits_of 2 n) (all_below_base_digits_of 2 n (omega arith)))

pub found_soon : (s : Site) (k tried : ℕ) → tried ≡ suc k → IsFirst s k → IsFoundSoon s tried
found_soon s k tried h first =
    let d = binary_digits (max (length s.before) (length s.behind)) in
    let never : suc d < k → ⊥ = λ g. first.among (suc d) g (holds_power s d (below_digits (max (length s.before) (length s.behind)))) in
    omega (arith, never)

at_most : (a b : ℕ) → (a ≤ b) ⊎ (b < a)
at_most a b = by_order a b (cases_order a b)
  where
    by_order : (a b : ℕ) → (a ≡ b) ⊎ ((a < b) ⊎ (b < a)) → (a ≤ b) ⊎ (b < a)
    by_order a b (inl e) = inl (omega arith)
    by_order a b (inr (inl h)) = inl (omega arith)
    by_order a b (inr (inr h)) = inr h

-- whether a window has room
has_room : (s : Site) (w : ℕ) → HasRoom s w ⊎ (open_count s w < new_count s)
has_room s w = by_count (at_most (new_count s) (open_count s w))
  where
    by_count : (new_count s ≤ open_count s w) ⊎ (open_count s w < new_count s) → HasRoom s w ⊎ (open_count s w < new_count s)
    by_count (inl h) = inl (inr h)
    by_count (inr h) = inr h

-- whether a window holds all
holds_all : (s : Site) (w : ℕ) → HoldsAll s w ⊎ ((w < length s.before) ⊎ (w < length s.behind))
holds_all s w = both (at_most (length s.before) w) (at_most (length s.behind) w)
  where
    both : (length s.before ≤ w) ⊎ (w < length s.before) → (length s.behind ≤ w) ⊎ (w < length s.behind) → HoldsAll s w ⊎ ((w < length s.before) ⊎ (w < length s.behind))
    both (inl a) (inl b) = inl (a, b)
    both (inl a) (inr b) = inr (inr b)
    both (inr a) b = inr (inl a)

not_all : (s : Site) (w : ℕ) → (w < length s.before) ⊎ (w < length s.behind) → ¬ (HoldsAll s w)
not_all s w (inl h) all = absurd (omega (arith, all.0))
not_all s w (inr h) all = absurd (omega (arith, all.1))

-- the open numbers of a window that holds all are those of the parent
all_open : (s : Site) (w : ℕ) → HoldsAll s w → open_count s w ≡ s.end - s.first
all_open s w all =
    let none : length s.before - w ≡ 0 = omega (arith, all.0) in
    let front : trees_before s w ≡ [] = ap (λ n. take n s.before) none in
    let back : trees_behind s w ≡ [] = drop_all w s.behind all.1 in
    λ i. open_to s.end (back i) - open_from s.first (front i)

-- one window is tried: none has room before it, and none holds all
try_one : (k : ℕ) (s : Site) → HasNoFirst s → ((j : ℕ) → j < k → ¬ (HasRoom s (width j))) → ((j : ℕ) → j < k → ¬ (HoldsAll s (width j)))
    → (¬ (HasRoom s (width k)) → ¬ (HoldsAll s (width k)) → s.end - s.first < new_count s)
    → HasRoom s (width k) ⊎ (open_count s (width k) < new_count s) → HoldsAll s (width k) ⊎ ((width k < length s.before) ⊎ (width k < length s.behind)) → s.end - s.first < new_count s
try_one k s none least among rest (inl room) all = absurd (none k (record { room = room; least = least; among = among }))
try_one k s none least among rest (inr few) (inl here) = omega (arith, all_open s (width k) here)
try_one k s none least among rest (inr few) (inr more) = rest (λ room. none k (record { room = room; least = least; among = among })) (not_all s (width k) more)

-- The windows are tried in turn, from window k on: the first that holds all has no room.
try_all : (n k : ℕ) (s : Site) → HasNoFirst s → ((j : ℕ) → j < k → ¬ (HasRoom s (width j))) → ((j : ℕ) → j < k → ¬ (HoldsAll s (width j))) → HoldsAll s (width (k + n)) → s.end - s.first < new_count s
try_all zero k s none least among all =
    try_one k s none least among (λ room here. absurd (here (subst (λ m. HoldsAll s (width m)) (let e : k + 0 ≡ k = omega arith in e) all))) (has_room s (width k)) (holds_all s (width k))
try_all (suc n) k s none least among all =
    try_one k s none least among
    (λ room here. try_all n (k + 1) s none (below_more (λ j. ¬ (HasRoom s (width j))) k least room) (below_more (λ j. ¬ (HoldsAll s (width j))) k among here)
    (subst (λ m. HoldsAll s (width m)) (let e : k + suc n ≡ k + 1 + n = omega arith in e) all)) (has_room s (width k)) (holds_all s (width k))

below_power : (n : ℕ) → n < 2 ^ n
below_power zero = omega arith
below_power (suc n) = let more : 2 ^ n < 2 ^ suc n = pow-lt (omega arith) in omega (arith, below_power n)

pub no_first_crowded : (s : Site) → HasNoFirst s → IsCrowded s
no_first_crowded s none =
    let n = max (length s.before) (length s.behind) in
    let few = try_all (suc n) 0 s none (λ j h. absurd (omega arith)) (λ j h. absurd (omega arith)) (subst (λ m. HoldsAll s (width m)) (let e : suc n ≡ 0 + suc n = omega arith in e) (holds_power s n (below_power n))) in
    let room : 2 * count_of_all (trees_in s 0) ≤ open_count s 0 → ⊥ = λ h. none 0 (record { room = inl h; least = λ j g. absurd (omega arith); among = λ j g. absurd (omega arith) }) in
    (few, omega (arith, room, fewer_in s 0))
