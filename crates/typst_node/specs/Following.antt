-- What the moves of an edit say of the nodes of a tree.
use Rattle.std.specs.Prelude.{ℕ, ◌≡◌, ◌-◌, ◌+◌, ◌⊎◌, List, length, Some, None, option_map}
use Rattle.typst_base.specs.Span.{numbered}
use Rattle.typst_node.specs.Tree.{Tree, kind_of}
use Rattle.typst_node.specs.Labels.{number}
use Rattle.typst_node.specs.Plain.{plain_label}
use Rattle.typst_node.specs.Paths.{IsPath, tree_at, trees_at}
use Rattle.typst_node.specs.Edit.{Edit, site_by}
use Rattle.typst_node.specs.Outside.{IsInWindow, old_place}
use Rattle.typst_node.specs.Moves.{NumberMoves, followed, followed_span}

-- the path of the old tree leads to a node that went
abbrev pub IsGone : Edit → Tree → List ℕ → Type 0
IsGone e old p = IsInWindow e.path (length (site_by e old).before) (length (trees_at e.path old) - length (site_by e old).behind) p

-- the path of the new tree leads to a node that came
abbrev pub IsNew : Edit → Tree → List ℕ → Type 0
IsNew e old q = IsInWindow e.path (length (site_by e old).before) (length (site_by e old).before + length (site_by e old).changed) q

-- the place in the new tree of a node that didn't go, by its path in the old tree
abbrev pub place_after : Edit → Tree → Tree → List ℕ → List ℕ
place_after e old new p =
    old_place e.path (length (trees_at e.path old) - length (site_by e old).behind) (length (trees_at e.path new)) (length (trees_at e.path old)) p

-- the place in the old tree of a node that didn't come, by its path in the new tree
abbrev pub place_of : Edit → Tree → Tree → List ℕ → List ℕ
place_of e old new q =
    old_place e.path (length (site_by e old).before + length (site_by e old).changed) (length (trees_at e.path old)) (length (trees_at e.path new)) q

-- The node at a path of the new tree is that at a path of the old one: it is the same apart from its span and bound, and
-- its number follows.
pub record IsSameNode (m : NumberMoves) (old new : Tree) (p q : List ℕ) : Type 0 where
  pub path : IsPath q new
  pub plain : plain_label (tree_at q new).label ≡ plain_label (tree_at p old).label
  pub number : followed m (number (tree_at p old).label) ≡ Some (number (tree_at q new).label)

-- Each node of the old tree that didn't go is at its place in the new tree, with the number that follows. Nothing
-- follows from the number of a node that went. All other nodes of the new tree came with the replacement.
pub record IsFollowed (e : Edit) (old new : Tree) (m : NumberMoves) : Type 0 where
  pub stays : (p : List ℕ) → IsPath p old → ¬ (IsGone e old p) → IsSameNode m old new p (place_after e old new p)
  pub gone : (p : List ℕ) → IsPath p old → IsGone e old p → followed m (number (tree_at p old).label) ≡ None
  pub others :
      (q : List ℕ) → IsPath q new → ¬ (IsNew e old q)
      → IsPath (place_of e old new q) old × ¬ (IsGone e old (place_of e old new q)) × (place_after e old new (place_of e old new q) ≡ q)

-- The node at a path of the old tree goes on: the number that follows is that of a node of its kind in the new tree.
abbrev pub GoesOn : NumberMoves → Tree → Tree → List ℕ → Type 0
GoesOn m old new p =
    (q : List ℕ) × IsPath q new
    × (kind_of (tree_at q new).label.content ≡ kind_of (tree_at p old).label.content)
    × (followed m (number (tree_at p old).label) ≡ Some (number (tree_at q new).label))

-- Each node of the old tree goes on, or nothing follows from its number.
abbrev pub AllGoOnOrGo : NumberMoves → Tree → Tree → Type 0
AllGoOnOrGo m old new =
    (p : List ℕ) → IsPath p old → GoesOn m old new p ⊎ (followed m (number (tree_at p old).label) ≡ None)

-- Each path of the old tree is one of the new tree. The number there is the same in both trees, and follows from itself.
abbrev pub StayInPlace : NumberMoves → Tree → Tree → Type 0
StayInPlace m old new =
    (p : List ℕ) → IsPath p old
    → IsPath p new
    × (number (tree_at p new).label ≡ number (tree_at p old).label)
    × (kind_of (tree_at p new).label.content ≡ kind_of (tree_at p old).label.content)
    × (followed m (number (tree_at p old).label) ≡ Some (number (tree_at p old).label))

-- the span of each node of the tree is followed as its number is
abbrev pub SpansFollow : NumberMoves → Tree → Type 0
SpansFollow m t =
    (p : List ℕ) → IsPath p t
    → followed_span m (tree_at p t).label.span ≡ option_map (numbered (tree_at p t).label.span.file) (followed m (number (tree_at p t).label))
