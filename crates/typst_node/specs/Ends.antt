-- The ends in blocks of 256.
use Rattle.std.specs.Prelude.{ℕ, suc, ◌+◌, ◌-◌, ◌%◌, ◌/◌, ◌^◌, ◌≤◌, List, [], ◌∷◌, length, slice_index, Option, Some, None, Box}
use Rattle.std.specs.Global.{Global}

-- the ends from a place on, each counted from the beginning of its block; sums wrap
abbrev pub ends_seen : (starts : List ℕ) → (place : ℕ) → (within : List ℕ) → List ℕ
ends_seen starts place [] = []
ends_seen starts place (end ∷ within) = ((slice_index starts (place / 256) + end) % 2 ^ 32) ∷ ends_seen starts (suc place) within

-- the starts of the blocks after the first, if there are any
abbrev pub starts_in : Option (Box (List ℕ) Global) → List ℕ
starts_in None = []
starts_in (Some starts) = starts.value

-- a list of the starts of blocks is kept only if it isn't empty
abbrev pub IsTight : Option (Box (List ℕ) Global) → Type 0
IsTight None = Unit {0}
IsTight (Some starts) = 1 ≤ length starts.value

-- a number, moved by the difference of two others; all wrap
abbrev pub moved : (gone added : ℕ) → ℕ → ℕ
moved gone added e = (e + (added % 2 ^ 32 + (2 ^ 32 - gone % 2 ^ 32)) % 2 ^ 32) % 2 ^ 32
