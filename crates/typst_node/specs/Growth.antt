-- How much a tree may gain so that its sums still fit a usize.
use Rattle.std.specs.Prelude.{suc, ◌≡◌, ◌+◌, ◌<◌, ◌≤◌, ◌^◌, List, length}
use Rattle.typst_node.specs.Tree.{Tree}
use Rattle.typst_node.specs.Text.{text, text_of_all}
use Rattle.typst_node.specs.Count.{count, count_of_all}
use Rattle.typst_node.specs.declared.node.replace.Growth.{Growth}

-- with the growth added, the text length and the node count of the tree are the largest that fit a usize
abbrev pub IsLargestGrowth : Growth → Tree → Type 0
IsLargestGrowth g t = (suc (length (text t) + g.len) ≡ 2 ^ 64) × (suc (count t + g.descendants) ≡ 2 ^ 64)

-- with the growth added, the text length and the node count of the tree fit a usize
abbrev pub CanGrow : Growth → Tree → Type 0
CanGrow g t = (length (text t) + g.len < 2 ^ 64) × (count t + g.descendants < 2 ^ 64)

-- with the growth added, the text length and the node count of an inner node with these children fit a usize
abbrev pub ChildrenCanGrow : Growth → List Tree → Type 0
ChildrenCanGrow g ts = (length (text_of_all ts) + g.len < 2 ^ 64) × (suc (count_of_all ts) + g.descendants < 2 ^ 64)

-- the new trees have at most so many more bytes and nodes than the old ones
abbrev pub GrowWithin : Growth → List Tree → List Tree → Type 0
GrowWithin g old new =
    (length (text_of_all new) ≤ length (text_of_all old) + g.len) × (count_of_all new ≤ count_of_all old + g.descendants)
