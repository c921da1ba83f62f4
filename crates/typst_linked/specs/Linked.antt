-- The meaning of the fields of a linked node.
use Rattle.std.specs.Prelude.{ℕ, ◌+◌, ◌<◌, ◌≤◌, ◌≡◌, ◌^◌, [], length, Option, None, Some}
use Rattle.std.specs.declared.rc.Rc.{Rc}
use Rattle.std.specs.declared.alloc.Global.{Global}
use Rattle.typst_node.specs.Tree.{Tree}
use Rattle.typst_node.specs.Text.{text, offset}
use Rattle.typst_node.specs.Count.{count}
use Rattle.std.specs.Option.{ForSome}
use Rattle.typst_linked.specs.Place.{Place, subtree, child_place, last_step}
use Rattle.typst_linked.specs.Siblings.{parent_tree}
use Rattle.typst_linked.specs.Part.{HasNoOwnText}
use Rattle.typst_linked.specs.declared.node.LinkedNode.TheInside.{Inside}

-- a root has the empty path, and a child is one step below its parent
abbrev pub place_below : Tree → ℕ → Option (Rc Place Global) → Place
place_below node index None = record { root = node; path = [] }
place_below node index (Some parent) = child_place parent.value index

-- the place of a linked node
abbrev pub place_of : Inside → Place
place_of a = place_below a.node.now a.index a.parent

-- a node and its offset belong to this place, and a node above it has no text of its own
pub record IsAt (place : Place) (node : Tree) (at : ℕ) : Type 0 where
  pub node_is : subtree place ≡ Some node
  pub offset_is : at ≡ offset place.path place.root
  pub bare : ForSome (parent_tree place) HasNoOwnText
  pub within : at + length (text node) ≤ length (text place.root)
  pub fits : length (text place.root) < 2 ^ 64
  pub counted : count place.root < 2 ^ 64

-- the fields of a linked node are those of the node at its place
abbrev pub IsLinked : Inside → Type 0
IsLinked a = IsAt (place_of a) a.node.now a.offset × (a.index ≡ last_step (place_of a).path)
