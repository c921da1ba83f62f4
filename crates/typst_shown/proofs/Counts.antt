-- How many nodes a part of the children has.
use Rattle.std.proofs.Common.{ℕ, ◌<◌, take, drop, arith}
use Rattle.typst_node.specs.Tree.{Tree, trees}
use Rattle.typst_node.specs.Count.{count, count_of_all}
use Rattle.typst_node.proofs.Opens.{count_split}
use Rattle.typst_node.proofs.Trees.{count_of_trees}

-- a part of the children has fewer nodes than the tree
pub count_inside : (t : Tree) (i n : ℕ) → count_of_all (take n (drop i (trees t.children))) < count t
count_inside t i n =
    let children = trees t.children in
    omega (arith, count_split n (drop i children), count_split i children, count_of_trees t.children)
