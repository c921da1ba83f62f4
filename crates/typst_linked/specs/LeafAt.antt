-- The leaf at a cursor.
use Rattle.std.specs.Prelude.{ℕ, ◌≡◌, ◌+◌, ◌==◌, ◌&&◌, List, [], length, Option, None, Some, IsTrue, IsSomeAnd, Bool, false, nat_lt, nat_le, if◌then◌else◌}
use Rattle.std.specs.List.{find}
use Rattle.std.specs.Option.{option_or, option_and_then}
use Rattle.typst_node.specs.Tree.{Tree, trees}
use Rattle.typst_node.specs.Preorder.{paths, at}
use Rattle.typst_node.specs.Text.{text, offset}
use Rattle.typst_linked.specs.Place.{Place, subtree, below}
use Rattle.typst_linked.specs.Search.{is_there, last_path, found_below}
use Rattle.typst_linked.specs.Ranges.{begin_of}
use Rattle.typst_linked.specs.declared.cursor.Side.{Side}
use Rattle.typst_linked.specs.declared.cursor.Side.TheVariants.{Before, After}

-- whether a text with this end reaches the cursor: it ends at the cursor or after it for `Before`, and after it for
-- `After`
abbrev pub reaches_cursor : Side → ℕ → ℕ → Bool
reaches_cursor Before cursor end = nat_le cursor end
reaches_cursor After cursor end = nat_lt cursor end

-- whether a text with this begin and this end covers the cursor: it has the byte before the cursor, or the byte after
-- it
abbrev pub covers_cursor : Side → ℕ → ℕ → ℕ → Bool
covers_cursor Before cursor begin end = nat_lt begin cursor && nat_le cursor end
covers_cursor After cursor begin end = nat_le begin cursor && nat_lt cursor end

-- a node without children
abbrev pub is_childless : Tree → Bool
is_childless t = length (trees t.children) == 0

-- whether a path, in a tree whose text begins at this offset, leads to a node without children that covers the cursor
abbrev pub is_covering_leaf : Side → ℕ → ℕ → Tree → List ℕ → Bool
is_covering_leaf side cursor begin t path = is_there (λ leaf. is_childless leaf && covers_cursor side cursor (begin + offset path t) (begin + offset path t + length (text leaf))) (at path t)

-- the first such path in preorder; there is at most one
abbrev pub covering_leaf : Side → ℕ → ℕ → Tree → Option (List ℕ)
covering_leaf side cursor begin t = find (is_covering_leaf side cursor begin t) (paths t)

-- whether a text that begins here may be the answer at the cursor without covering it
abbrev pub begins_at_cursor : Side → ℕ → ℕ → Bool
begins_at_cursor Before cursor begin = begin == cursor
begins_at_cursor After cursor begin = false

-- the last path to a node without children, if that node may be the answer by where it begins
abbrev pub last_leaf : Side → ℕ → ℕ → Tree → Option (List ℕ)
last_leaf side cursor begin t = option_and_then (λ path. if begins_at_cursor side cursor (begin + offset path t) then Some path else None) (last_path is_childless t)

-- The leaf at the cursor: the leaf that covers it, or else, for `Before`, the last leaf if it begins there. If the tree
-- has no children, it only needs to reach the cursor.
abbrev pub leaf_path : Side → ℕ → ℕ → Tree → Option (List ℕ)
leaf_path side cursor begin t = if is_childless t
    then (if reaches_cursor side cursor (begin + length (text t)) then Some [] else None)
    else option_or (covering_leaf side cursor begin t) (last_leaf side cursor begin t)

-- the same below a place
abbrev pub leaf_place : Side → ℕ → Place → Option Place
leaf_place side cursor place = found_below (leaf_path side cursor (begin_of place)) place

-- the node at a place covers the cursor
abbrev pub CoversCursor : Side → ℕ → Place → Type 0
CoversCursor side cursor place = IsSomeAnd (subtree place) (λ t. IsTrue (covers_cursor side cursor (begin_of place) (begin_of place + length (text t))))

-- a node at or below a place, without children, that covers the cursor
pub record IsCoveringBelow (side : Side) (cursor : ℕ) (place found : Place) : Type 0 where
  pub path : List ℕ
  pub place_is : found ≡ below place path
  pub covers : CoversCursor side cursor found
  pub childless : IsSomeAnd (subtree found) (λ t. trees t.children ≡ [])

-- the least end of a text that covers the cursor
abbrev pub least_end : Side → ℕ → ℕ
least_end Before cursor = cursor
least_end After cursor = cursor + 1
