-- Where calls find nodes in the tree that is held.
use Rattle.std.specs.Prelude.{ℕ, ◌≡◌, ◌<◌, ◌≤◌, ◌^◌, ◌⊎◌, List, [], None, Some, IsSomeAnd, Result, Ok, Err}
use Rattle.typst_node.specs.Tree.{Tree}
use Rattle.typst_node.specs.Text.{offset}
use Rattle.typst_linked.specs.Place.{Place}
use Rattle.typst_linked.specs.Finds.{HasNumberBelow}
use Rattle.typst_linked.specs.LeafAt.{leaf_place}
use Rattle.typst_linked.specs.Ranges.{Covers, FindsCover, FindsRange}
use Rattle.typst_linked.specs.Search.{with_number, found_below}
use Rattle.typst_linked.specs.declared.cursor.Side.{Side}
use Rattle.typst_session.specs.Sessions.{root_of}
use Rattle.typst_session.specs.declared.session.Session.{Session}
use Rattle.typst_session.specs.declared.finding.Found.{Found}
use Rattle.typst_session.specs.declared.refusal.Refusal.{Refusal}
use Rattle.typst_session.specs.declared.refusal.Refusal.TheVariants.{Memory, NoTree, NotFound}

-- the place in a tree that a path leads to
abbrev pub place_in : Tree → List ℕ → Place
place_in root path = record { root = root; path = path }

-- no node of the tree has the number
abbrev pub HasNoNumber : ℕ → Tree → Type 0
HasNoNumber number root = (number < 2) ⊎ ((2 ^ 47 ≤ number) ⊎ (found_below (with_number number) (place_in root []) ≡ None))

-- a node with the number is at the path that was found, and its text begins at the offset that was found
pub record IsFound (number : ℕ) (root : Tree) (found : Found) : Type 0 where
  pub node : HasNumberBelow number (place_in root []) (place_in root found.path.items)
  pub begin : found.offset ≡ offset found.path.items root

-- where the node with a number is, or why it isn't found
abbrev pub Finds : ℕ → Session → Result Found Refusal → Type 0
Finds number s (Ok found) = IsSomeAnd (root_of s.held) (λ root. IsFound number root found)
Finds number s (Err NoTree) = root_of s.held ≡ None
Finds number s (Err NotFound) = IsSomeAnd (root_of s.held) (HasNoNumber number)
Finds number s (Err Memory) = Unit {0}
Finds number s (Err _) = ⊥

-- the node with a range of bytes is at the path that was found, and its text begins at the offset that was found
pub record IsAtRange (start end : ℕ) (root : Tree) (found : Found) : Type 0 where
  pub node : FindsRange start end (place_in root []) (Some (place_in root found.path.items))
  pub begin : found.offset ≡ offset found.path.items root

-- where the node with a range of bytes is, or why there is none
abbrev pub FindsByRange : ℕ → ℕ → Session → Result Found Refusal → Type 0
FindsByRange start end s (Ok found) = IsSomeAnd (root_of s.held) (λ root. IsAtRange start end root found)
FindsByRange start end s (Err NoTree) = root_of s.held ≡ None
FindsByRange start end s (Err NotFound) = IsSomeAnd (root_of s.held) (λ root. FindsRange start end (place_in root []) None)
FindsByRange start end s (Err Memory) = Unit {0}
FindsByRange start end s (Err _) = ⊥

-- a smallest node that covers a range of bytes is at the path that was found, and its text begins at the offset that was
-- found
pub record IsAtCover (start end : ℕ) (root : Tree) (found : Found) : Type 0 where
  pub node : FindsCover start end (place_in root []) (Some (place_in root found.path.items))
  pub begin : found.offset ≡ offset found.path.items root

-- where the smallest node is that covers a range of bytes, or why there is none
abbrev pub FindsByCover : ℕ → ℕ → Session → Result Found Refusal → Type 0
FindsByCover start end s (Ok found) = IsSomeAnd (root_of s.held) (λ root. IsAtCover start end root found)
FindsByCover start end s (Err NoTree) = root_of s.held ≡ None
FindsByCover start end s (Err NotFound) = IsSomeAnd (root_of s.held) (λ root. ¬ (Covers start end (place_in root [])))
FindsByCover start end s (Err Memory) = Unit {0}
FindsByCover start end s (Err _) = ⊥

-- the leaf at a cursor is at the path that was found, and its text begins at the offset that was found
pub record IsLeafAt (side : Side) (cursor : ℕ) (root : Tree) (found : Found) : Type 0 where
  pub leaf : leaf_place side cursor (place_in root []) ≡ Some (place_in root found.path.items)
  pub begin : found.offset ≡ offset found.path.items root

-- where the leaf at a cursor is, or why there is none
abbrev pub FindsLeaf : Side → ℕ → Session → Result Found Refusal → Type 0
FindsLeaf side cursor s (Ok found) = IsSomeAnd (root_of s.held) (λ root. IsLeafAt side cursor root found)
FindsLeaf side cursor s (Err NoTree) = root_of s.held ≡ None
FindsLeaf side cursor s (Err NotFound) = IsSomeAnd (root_of s.held) (λ root. leaf_place side cursor (place_in root []) ≡ None)
FindsLeaf side cursor s (Err Memory) = Unit {0}
FindsLeaf side cursor s (Err _) = ⊥
