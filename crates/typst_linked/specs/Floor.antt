-- Children whose numbers rise, and the index after a floor among them.
use Rattle.std.specs.Prelude.{ℕ, ◌+◌, ◌<◌, ◌≤◌, ◌≡◌, List, Option, None, Some, slice_get}
use Rattle.typst_node.specs.Tree.{Tree}
use Rattle.typst_node.specs.Labels.{number}
use Rattle.typst_linked.specs.declared.floor.Floor.{Floor}

-- the index after the floor; without a floor it is the first index
abbrev pub index_behind : Option Floor → ℕ
index_behind None = 0
index_behind (Some floor) = floor.index + 1

-- the floor is one of the trees, and its number is at most the wanted number
abbrev pub IsFloorOf : List Tree → ℕ → Floor → Type 0
IsFloorOf ts wanted floor = (floor.number ≤ wanted) × ((t : Tree) × (slice_get ts floor.index ≡ Some t) × (number t.label ≡ floor.number))

-- each tree's number is above those of the trees before it
abbrev pub NumbersRise : List Tree → Type 0
NumbersRise ts = (i j : ℕ) (a b : Tree) → slice_get ts i ≡ Some a → slice_get ts j ≡ Some b → i < j → number a.label < number b.label

-- all numbers from an index on are above the wanted number
abbrev pub AreAbove : List Tree → ℕ → ℕ → Type 0
AreAbove ts wanted from = (k : ℕ) (t : Tree) → from ≤ k → slice_get ts k ≡ Some t → wanted < number t.label
