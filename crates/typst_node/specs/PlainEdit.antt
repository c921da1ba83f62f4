-- The plain edit: other trees in place of some children of a node.
use Rattle.std.specs.Prelude.{ℕ, ◌<◌, ◌≤◌, ◌^◌, List, length}
use Rattle.std.specs.List.{splice}
use Rattle.typst_node.specs.Tree.{Tree, forest, trees, IsInner}
use Rattle.typst_node.specs.Text.{text}
use Rattle.typst_node.specs.Count.{count}
use Rattle.typst_node.specs.Paths.{IsPath, tree_at, with_children}

-- the node's children before the range, then the others, then its children after the range
abbrev pub spliced : ℕ → ℕ → List Tree → Tree → List Tree
spliced from to others t = splice (trees t.children) from to others

-- the node with these children; everything else stays
abbrev pub edited : ℕ → ℕ → List Tree → Tree → Tree
edited from to others t = record { label = t.label; children = forest (spliced from to others t) }

-- the plain edit of the node that a path leads to
abbrev pub edited_at : List ℕ → ℕ → ℕ → List Tree → Tree → Tree
edited_at path from to others t = with_children path (spliced from to others (tree_at path t)) t

-- the range lies within the children of the node, if it is an inner node
abbrev pub RangeFits : ℕ → ℕ → Tree → Type 0
RangeFits from to t = IsInner t.label.content → (from ≤ to) × (to ≤ length (trees t.children))

-- the path leads to a node, and the range lies within its children, if it is an inner node
abbrev pub EditFits : List ℕ → ℕ → ℕ → Tree → Type 0
EditFits path from to t = IsPath path t × RangeFits from to (tree_at path t)

-- the path leads to an inner node, and the range lies within its children
abbrev pub FitsInner : List ℕ → ℕ → ℕ → Tree → Type 0
FitsInner path from to t =
    IsPath path t × IsInner (tree_at path t).label.content × (from ≤ to) × (to ≤ length (trees (tree_at path t).children))

-- the text length and the node count of the tree fit a usize
abbrev pub TreeFits : Tree → Type 0
TreeFits t = (length (text t) < 2 ^ 64) × (count t < 2 ^ 64)
