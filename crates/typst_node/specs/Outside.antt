-- The nodes that a replacement leaves alone, and their places before it.
use Rattle.std.specs.Prelude.{ℕ, ◌≡◌, ◌+◌, ◌-◌, ◌<◌, ◌≤◌, ◌==◌, nat_lt, if◌then◌else◌, List, [], ◌∷◌, length}
use Rattle.std.specs.declared.ops.Range.{Range}
use Rattle.typst_node.specs.Tree.{Tree, trees}
use Rattle.typst_node.specs.Paths.{IsPath, tree_at}
use Rattle.typst_node.specs.declared.node.replace.Renumbered.{Renumbered}

-- a path leads into a window: into a subtree of the children from one index up to another of the node at another path
abbrev pub IsInWindow : List ℕ → ℕ → ℕ → List ℕ → Type 0
IsInWindow [] from to [] = ⊥
IsInWindow [] from to (j ∷ q) = (from ≤ j) × (j < to)
IsInWindow (i ∷ p) from to [] = ⊥
IsInWindow (i ∷ p) from to (j ∷ q) = (i ≡ j) × IsInWindow p from to q

-- The index that a child had before. After the window it differs by the change in the number of children, from `old` to
-- `new`.
abbrev pub old_index : ℕ → ℕ → ℕ → ℕ → ℕ
old_index to old new j = if nat_lt j to then j else j + old - new

-- The place that a path of the new tree had in the old tree. It is the same path, except for the index of a child of
-- the edited node.
abbrev pub old_place : List ℕ → ℕ → ℕ → ℕ → List ℕ → List ℕ
old_place [] to old new [] = []
old_place [] to old new (j ∷ q) = old_index to old new j ∷ q
old_place (i ∷ p) to old new [] = []
old_place (i ∷ p) to old new (j ∷ q) = j ∷ (if i == j then old_place p to old new q else q)

-- the place in the old tree t for a path of the new tree u, after a change of the children in a range at the path p
abbrev pub place_beside : List ℕ → Range ℕ → Tree → Tree → List ℕ → List ℕ
place_beside p range t u q = old_place p range.end (length (trees (tree_at p t).children)) (length (trees (tree_at p u).children)) q

-- Each node of the new tree u outside the subtrees of the children in a range at the path p has the label that it had at
-- its place in the old tree t. So it has the same span and the same bound.
abbrev pub KeepsBeside : List ℕ → Range ℕ → Tree → Tree → Type 0
KeepsBeside p range t u =
    (q : List ℕ) → IsPath q u → ¬ (IsInWindow p range.start range.end q)
    → IsPath (place_beside p range t u q) t × ((tree_at q u).label ≡ (tree_at (place_beside p range t u q) t).label)

-- the place in the old tree t for a path of the new tree u, after a replacement at the path p
abbrev pub place_before : List ℕ → Renumbered → Tree → Tree → List ℕ → List ℕ
place_before p r t u q = place_beside p r.window t u q

-- each node of the new tree u outside the window's subtrees has the label that it had at its place in the old tree t
abbrev pub KeepsOutside : List ℕ → Renumbered → Tree → Tree → Type 0
KeepsOutside p r t u = KeepsBeside p r.window t u

-- After a change of the children in a range at the path p, the node at the path a of the old tree t is at the path b of
-- the new tree u: b leads to a node outside the subtrees of these children, and a is its place in the old tree.
abbrev pub GoesOnBeside : List ℕ → Range ℕ → Tree → Tree → List ℕ → List ℕ → Type 0
GoesOnBeside p range t u a b = IsPath b u × ¬ (IsInWindow p range.start range.end b) × (place_beside p range t u b ≡ a)

-- the path b leads to a node of the new tree u, and its label is that of the node at the path a of the old tree t
abbrev pub KeepsLabel : List ℕ → List ℕ → Tree → Tree → Type 0
KeepsLabel a b t u = IsPath b u × ((tree_at b u).label ≡ (tree_at a t).label)
