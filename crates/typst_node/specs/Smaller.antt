-- Each child has fewer nodes than its parent. These lemmas stand here since the laws of a trait cite them.
use Rattle.std.specs.Prelude.{◌+◌, ◌≤◌, max, suc, List, [], ◌∷◌}
use Rattle.std.proofs.Common.{arith, length-append}
use denote.Param.Weighed.{most}
use Rattle.typst_node.specs.Tree.{Tree, forest}
use Rattle.typst_node.specs.Count.{count, count_of_all}
use Rattle.typst_node.specs.Preorder.{preorder}
use Rattle.typst_node.specs.View.{below}
use Rattle.typst_node.specs.declared.node.Node.{Node}
use Rattle.typst_node.specs.declared.node.Node.TheVariants.{Short, Long, Leaf, Inner, Error}
use Rattle.typst_node.specs.declared.node.SyntaxNode.TheDeep.{deep-Node}

-- no tree of a list has more nodes than all trees of the list together
pub most_le-count : (ts : List Tree) → most (λ t. count t + 1) ts ≤ suc (count_of_all ts)
most_le-count [] = omega arith
most_le-count (t ∷ ts) = omega (arith, most_le-count ts, length-append (preorder t.children) (preorder (forest ts)))

-- each child of a node has fewer nodes than the node
pub children_are_smaller : (n : Node) → max (deep-Node n) 0 ≤ suc (count_of_all (below n))
children_are_smaller (Short kind len bytes) = omega arith
children_are_smaller (Long kind b) = omega arith
children_are_smaller (Leaf kind b) = omega arith
children_are_smaller (Inner kind len b) = omega (arith, most_le-count b.value.children.items)
children_are_smaller (Error b) = omega arith
