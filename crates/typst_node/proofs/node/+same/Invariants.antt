use Rattle.std.proofs.Common.{◌≡◌, take, ◌*◌, ◌+◌}
use Rattle.typst_node.specs.Count.{count, count_of_all}
use Rattle.typst_node.specs.View.{below}
use Rattle.typst_node.proofs.node.+same.Given as goal

abbrev pub decreases-SyntaxNode::same : goal.decreases-SyntaxNode::same
decreases-SyntaxNode::same l = 3 * count l.self.now

abbrev pub decreases-Node::same : goal.decreases-Node::same
decreases-Node::same l = 3 * count_of_all (below l.self.now) + 2

abbrev pub decreases-equal::all_same : goal.decreases-equal::all_same
decreases-equal::all_same l = 3 * count_of_all l.nodes.now + 1

abbrev pub invariant-equal::all_same-loop-i : goal.invariant-equal::all_same-loop-i
invariant-equal::all_same-loop-i l = take l.i l.nodes ≡ take l.i l.others
