-- Where a node is, and which nodes are next to it.
use Rattle.std.specs.Prelude.{ℕ, ◌≡◌, ◌+◌, List, length, Option, None, Some, IsSomeAnd, Result, Ok, Err}
use Rattle.std.specs.declared.ops.Range.{Range as Interval}
use Rattle.typst_node.specs.Tree.{Tree}
use Rattle.typst_node.specs.Text.{text, offset}
use Rattle.typst_node.specs.Paths.{IsPath, tree_at}
use Rattle.typst_linked.specs.Place.{Place}
use Rattle.typst_linked.specs.Leaves.{elsewhere, stop_before, stop_behind}
use Rattle.typst_linked.specs.Siblings.{sibling, solid_before, solid_behind}
use Rattle.typst_session.specs.Finding.{place_in}
use Rattle.typst_session.specs.Reading.{IsNoNode}
use Rattle.typst_session.specs.Sessions.{root_of}
use Rattle.typst_session.specs.declared.session.Session.{Session}
use Rattle.typst_session.specs.declared.finding.Found.{Found}
use Rattle.typst_session.specs.declared.neighbors.Neighbor.{Neighbor}
use Rattle.typst_session.specs.declared.neighbors.Neighbor.TheVariants.{NextLeaf, PrevLeaf, NextSibling, PrevSibling}
use Rattle.typst_session.specs.declared.refusal.Refusal.{Refusal}
use Rattle.typst_session.specs.declared.refusal.Refusal.TheVariants.{Memory, NotFound}

-- the node at a path isn't reached: it isn't there, or memory was refused
abbrev pub IsNotReached : List ℕ → Session → Refusal → Type 0
IsNotReached path s Memory = Unit {0}
IsNotReached path s refusal = IsNoNode path s refusal

-- the bytes of the text that belong to the node at a path
pub record IsRangeOf (path : List ℕ) (root : Tree) (range : Interval ℕ) : Type 0 where
  pub there : IsPath path root
  pub begin : range.start ≡ offset path root
  pub behind : range.end ≡ range.start + length (text (tree_at path root))

-- the bytes of the node at a path, or why there are none
abbrev pub ReadsRange : List ℕ → Session → Result (Interval ℕ) Refusal → Type 0
ReadsRange path s (Ok range) = IsSomeAnd (root_of s.held) (λ root. IsRangeOf path root range)
ReadsRange path s (Err refusal) = IsNotReached path s refusal

-- the place of the node next to another one
abbrev pub neighbor_of : Neighbor → Place → Option Place
neighbor_of NextLeaf place = elsewhere stop_behind place
neighbor_of PrevLeaf place = elsewhere stop_before place
neighbor_of NextSibling place = sibling solid_behind place
neighbor_of PrevSibling place = sibling solid_before place

-- the node next to the one at a path is at the path that was found, and its text begins at the offset that was found
pub record IsNeighbor (which : Neighbor) (path : List ℕ) (root : Tree) (found : Found) : Type 0 where
  pub there : IsPath path root
  pub place : neighbor_of which (place_in root path) ≡ Some (place_in root found.path.items)
  pub begin : found.offset ≡ offset found.path.items root

-- there is a node at the path, but none next to it
abbrev pub HasNoNeighbor : Neighbor → List ℕ → Tree → Type 0
HasNoNeighbor which path root = IsPath path root × (neighbor_of which (place_in root path) ≡ None)

-- where the node next to the one at a path is, or why there is none
abbrev pub FindsNeighbor : Neighbor → List ℕ → Session → Result Found Refusal → Type 0
FindsNeighbor which path s (Ok found) = IsSomeAnd (root_of s.held) (λ root. IsNeighbor which path root found)
FindsNeighbor which path s (Err NotFound) = IsSomeAnd (root_of s.held) (HasNoNeighbor which path)
FindsNeighbor which path s (Err refusal) = IsNotReached path s refusal
