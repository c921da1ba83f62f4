-- The siblings of a place.
use Rattle.std.specs.Prelude.{ℕ, zero, suc, ◌+◌, ◌-◌, List, [], ◌∷◌, length, take, drop, reverse, slice_get, Option, None, Some, Bool, not, nat_lt, if◌then◌else◌}
use Rattle.std.specs.List.{position_from}
use Rattle.std.specs.Option.{option_map, option_and_then}
use Rattle.typst_base.specs.declared.kind.SyntaxKind.{SyntaxKind}
use Rattle.typst_base.specs.KindClasses.{is_trivia_kind}
use Rattle.typst_node.specs.Tree.{Tree, trees, kind_of}
use Rattle.typst_node.specs.Preorder.{at}
use Rattle.typst_linked.specs.Place.{Place, child_place, last_step}

-- the kind of a tree's node
abbrev pub kind_at : Tree → SyntaxKind
kind_at t = kind_of t.label.content

-- a node whose kind isn't trivia
abbrev pub is_solid : Tree → Bool
is_solid t = not (is_trivia_kind (kind_at t))

-- a path without its last step
abbrev pub front : List ℕ → List ℕ
front [] = []
front (i ∷ []) = []
front (i ∷ (j ∷ path)) = i ∷ front (j ∷ path)

-- the place of the parent; that of a root is its own place
abbrev pub parent_place : Place → Place
parent_place place = record { root = place.root; path = front place.path }

-- the children of a node; none if there is no node
abbrev pub children_of : Option Tree → List Tree
children_of None = []
children_of (Some t) = trees t.children

-- the subtree at the parent of a path; a root has no parent
abbrev pub parent_at : Tree → List ℕ → Option Tree
parent_at root [] = None
parent_at root (i ∷ path) = at (front (i ∷ path)) root

-- the subtree at the parent of a place
abbrev pub parent_tree : Place → Option Tree
parent_tree place = parent_at place.root place.path

-- the children of the parent of a place; a root has no siblings
abbrev pub siblings : Place → List Tree
siblings place = children_of (parent_tree place)

-- The index of another tree of a list, seen from an index: the tree directly before, the tree directly after, the
-- nearest tree before whose kind isn't trivia, and the nearest tree after whose kind isn't trivia.
abbrev pub before_it : ℕ → List Tree → Option ℕ
before_it zero ts = None
before_it (suc i) ts = Some i

-- the index of the tree directly after it
abbrev pub behind_it : ℕ → List Tree → Option ℕ
behind_it i ts = if nat_lt (i + 1) (length ts) then Some (i + 1) else None

-- the index of the nearest tree before it whose kind isn't trivia
abbrev pub solid_before : ℕ → List Tree → Option ℕ
solid_before i ts = option_map (λ k. i - 1 - k) (position_from is_solid 0 (reverse (take i ts)))

-- the index of the nearest tree after it whose kind isn't trivia
abbrev pub solid_behind : ℕ → List Tree → Option ℕ
solid_behind i ts = position_from is_solid (i + 1) (drop (i + 1) ts)

-- the chosen sibling
abbrev pub sibling : (ℕ → List Tree → Option ℕ) → Place → Option Place
sibling pick place = option_map (child_place (parent_place place)) (pick (last_step place.path) (siblings place))

-- the kind of the chosen sibling
abbrev pub sibling_kind : (ℕ → List Tree → Option ℕ) → Place → Option SyntaxKind
sibling_kind pick place = option_and_then (λ i. option_map kind_at (slice_get (siblings place) i)) (pick (last_step place.path) (siblings place))

-- the kind of the parent
abbrev pub parent_kind_of : Place → Option SyntaxKind
parent_kind_of place = option_map kind_at (parent_tree place)
