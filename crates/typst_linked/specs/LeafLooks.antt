-- How many ends of children a search for the leaf at a cursor may read.
use Rattle.std.specs.Prelude.{ℕ, ◌+◌, ◌-◌, ◌≤◌, ◌≡◌, ◌⊎◌, List, [], ◌∷◌, length, min, Option, IfSome, IsSomeAnd}
use Rattle.std.specs.Option.{ForSome}
use Rattle.typst_node.specs.Tree.{trees}
use Rattle.typst_linked.specs.Place.{Place, subtree, below, child_place}
use Rattle.typst_node.specs.BinaryDigits.{binary_digits}
use Rattle.typst_linked.specs.Search.{weight_along}
use Rattle.typst_linked.specs.Ranges.{begin_of}
use Rattle.typst_linked.specs.LeafAt.{CoversCursor}
use Rattle.typst_linked.specs.declared.cursor.Side.{Side}
use Rattle.typst_linked.specs.declared.cursor.Side.TheVariants.{Before, After}

-- the last child, if it begins at the cursor and no child covers the cursor
pub record IsLastAt (cursor : ℕ) (place : Place) (index : ℕ) : Type 0 where
  pub begins : begin_of (child_place place index) ≡ cursor
  pub last : IsSomeAnd (subtree place) (λ t. index + 1 ≡ length (trees t.children))
  pub uncovered : (j : ℕ) → ¬ (CoversCursor Before cursor (child_place place j))

-- the search goes on with this child
abbrev pub IsNextChild : Side → ℕ → Place → ℕ → Type 0
IsNextChild Before cursor place index = CoversCursor Before cursor (child_place place index) ⊎ IsLastAt cursor place index
IsNextChild After cursor place index = CoversCursor After cursor (child_place place index)

-- the search goes along this path
abbrev pub IsWay : Side → ℕ → Place → List ℕ → Type 0
IsWay side cursor place [] = Unit {0}
IsWay side cursor place (i ∷ path) = IsNextChild side cursor place i × IsWay side cursor (child_place place i) path

-- the count rises from `old` to `new` by at most the binary digits of the numbers of children of the nodes on the way
abbrev pub IsWithinDigits : Place → List ℕ → ℕ → ℕ → Type 0
IsWithinDigits place path old new = ForSome (subtree place) (λ t. new ≤ old + weight_along binary_digits path t)

-- The search went along a way, down to the last node that it reached. From the count `old` on, it read at most as many
-- ends as the numbers of children on the way have binary digits. If the first node covers the cursor, it read at least
-- one end for each step.
pub record HasWay (side : Side) (cursor : ℕ) (place : Place) (old new : ℕ) : Type 0 where
  pub path : List ℕ
  pub way : IsWay side cursor place path
  pub most : IsWithinDigits place path old new
  pub each : CoversCursor side cursor place → old + length path ≤ new

-- an answer that covers the cursor takes at least one look for each step
abbrev pub HasLookEachCover : Side → ℕ → Place → ℕ → Option Place → Type 0
HasLookEachCover side cursor place looks answer = IfSome answer (λ found. CoversCursor side cursor found → length found.path ≤ looks + length place.path)

-- 1 if there are two or more, else 0
abbrev pub one_if_several : ℕ → ℕ
one_if_several n = min 1 (n - 1)

-- from the count `old` on, the way down to the answer took at least one look for each node on it that has two or more
-- children
pub record HasLookEachFork (place : Place) (old new : ℕ) (found : Place) : Type 0 where
  pub path : List ℕ
  pub place_is : found ≡ below place path
  pub forks : ForSome (subtree place) (λ t. old + weight_along one_if_several path t ≤ new)
