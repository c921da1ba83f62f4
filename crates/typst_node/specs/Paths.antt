-- Paths to nodes, the subtrees there, and the tree with other children there.
use Rattle.std.specs.Prelude.{ℕ, ◌≡◌, ◌<◌, List, [], ◌∷◌, length, set, get_or}
use Rattle.typst_base.specs.Span.{detached}
use Rattle.typst_base.specs.declared.kind.SyntaxKind.TheVariants as kinds
use Rattle.typst_node.specs.Tree.{Tree, AsInner, IsInner, none, forest, trees}

-- the tree at a path that leads to no node
abbrev pub no_tree : Tree
no_tree = record { label = record { span = detached; warnings = []; content = AsInner kinds.End 0 }; children = none }

-- the path leads to a node of the tree
abbrev pub IsPath : List ℕ → Tree → Type 0
IsPath [] t = Unit {0}
IsPath (i ∷ path) t = (i < length (trees t.children)) × IsPath path (get_or (trees t.children) i no_tree)

-- the subtree at a path
abbrev pub tree_at : List ℕ → Tree → Tree
tree_at [] t = t
tree_at (i ∷ path) t = tree_at path (get_or (trees t.children) i no_tree)

-- the tree with other children of the node that a path leads to; everything else stays
abbrev pub with_children : List ℕ → List Tree → Tree → Tree
with_children [] kids t = record { label = t.label; children = forest kids }
with_children (i ∷ path) kids t = record {
  label = t.label;
  children = forest (set (trees t.children) i (with_children path kids (get_or (trees t.children) i no_tree)));
}

-- the path leads to an inner node
abbrev pub IsInnerAt : List ℕ → Tree → Type 0
IsInnerAt path t = IsInner (tree_at path t).label.content

-- the children of the node that a path leads to
abbrev pub trees_at : List ℕ → Tree → List Tree
trees_at path t = trees (tree_at path t).children

-- the new tree is the old one, except for the children of the node that the path leads to
abbrev pub StaysBeside : List ℕ → Tree → Tree → Type 0
StaysBeside path old new = new ≡ with_children path (trees_at path new) old
