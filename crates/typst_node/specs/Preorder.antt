-- The preorder of a tree: a parent before its children, and children from left to right. Warnings take no step.
use Rattle.std.specs.Prelude.{ℕ, ◌+◌, List, [], ◌∷◌, ◌++◌, map, Option, Some, None, slice_get}
use Rattle.typst_node.specs.Tree.{Label, Forest, none, tree, Tree, trees}

-- the labels of adjacent trees, in preorder
abbrev pub preorder : Forest → List Label
preorder none = []
preorder (tree l c r) = l ∷ (preorder c ++ preorder r)

-- the labels of a tree's nodes, in preorder
abbrev pub nodes : Tree → List Label
nodes t = t.label ∷ preorder t.children

-- the subtrees of adjacent trees, in preorder
abbrev pub subtrees_of : Forest → List Tree
subtrees_of none = []
subtrees_of (tree l c r) = record { label = l; children = c } ∷ (subtrees_of c ++ subtrees_of r)

-- the subtrees of a tree, itself included, in preorder
abbrev pub subtrees : Tree → List Tree
subtrees t = t ∷ subtrees_of t.children

-- the paths of adjacent trees, of which the first has this index; a path is a list of child indices
abbrev pub paths_from : ℕ → Forest → List (List ℕ)
paths_from i none = []
paths_from i (tree l c r) = map (λ path. i ∷ path) ([] ∷ paths_from 0 c) ++ paths_from (i + 1) r

-- the paths of a tree's nodes, in preorder
abbrev pub paths : Tree → List (List ℕ)
paths t = [] ∷ paths_from 0 t.children

-- the answer of a function for the value, if there is one
abbrev pub if_some : {A B : Type 0} → (A → Option B) → Option A → Option B
if_some f None = None
if_some f (Some x) = f x

-- the subtree that a path leads to, if there is one
abbrev pub at : List ℕ → Tree → Option Tree
at [] t = Some t
at (i ∷ path) t = if_some (at path) (slice_get (trees t.children) i)
