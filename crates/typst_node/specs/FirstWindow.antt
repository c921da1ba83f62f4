-- The first window with room.
use Rattle.std.specs.Prelude.{ℕ, ◌+◌, ◌-◌, ◌<◌, ◌≤◌, length, max}
use Rattle.typst_node.specs.BinaryDigits.{binary_digits}
use Rattle.typst_node.specs.Window.{Site, width}
use Rattle.typst_node.specs.Room.{HasRoom, new_count}

-- the window with at most w neighbours on each side holds all children
abbrev pub HoldsAll : Site → ℕ → Type 0
HoldsAll s w = (length s.before ≤ w) × (length s.behind ≤ w)

-- window k is the first window with room, among the windows up to the first that holds all children
pub record IsFirst (s : Site) (k : ℕ) : Type 0 where
  pub room : HasRoom s (width k)
  pub least : (j : ℕ) → j < k → ¬ (HasRoom s (width j))
  pub among : (j : ℕ) → j < k → ¬ (HoldsAll s (width j))

-- there is no first window
abbrev pub HasNoFirst : Site → Type 0
HasNoFirst s = (k : ℕ) → ¬ (IsFirst s k)

-- the number of tried windows is at most 2 plus the binary digits of the larger number of neighbours
abbrev pub IsFoundSoon : Site → ℕ → Type 0
IsFoundSoon s tried = tried ≤ 2 + binary_digits (max (length s.before) (length s.behind))

-- the open numbers of the whole parent, after its own number and below its bound, are fewer than its nodes after the
-- edit, and it has children then
abbrev pub IsCrowded : Site → Type 0
IsCrowded s = (s.end - s.first < new_count s) × (1 < new_count s)
