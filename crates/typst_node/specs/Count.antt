-- The number of nodes of a tree.
use Rattle.std.specs.Prelude.{ℕ, ◌<◌, ◌^◌, suc, List, length}
use Rattle.typst_node.specs.Tree.{Tree, forest}
use Rattle.typst_node.specs.Preorder.{preorder, nodes}
use Rattle.typst_node.specs.Text.{text_of_all}

-- the number of nodes, the tree's own included
abbrev pub count : Tree → ℕ
count t = length (nodes t)

-- the number of nodes of all these trees together
abbrev pub count_of_all : List Tree → ℕ
count_of_all ts = length (preorder (forest ts))

-- the text length and the node count of an inner node with these children fit a usize
abbrev pub SumsFit : List Tree → Type 0
SumsFit ts = (length (text_of_all ts) < 2 ^ 64) × (suc (count_of_all ts) < 2 ^ 64)
