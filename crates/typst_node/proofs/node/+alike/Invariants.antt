use Rattle.std.proofs.Common.{◌≡◌, map, take, ◌*◌, ◌+◌, ◌-◌}
use Rattle.typst_node.specs.Plain.{plain}
use Rattle.typst_node.specs.Count.{count, count_of_all}
use Rattle.typst_node.specs.View.{below}
use Rattle.typst_node.proofs.node.+alike.Given as goal

abbrev pub decreases-SyntaxNode::spanless_eq : goal.decreases-SyntaxNode::spanless_eq
decreases-SyntaxNode::spanless_eq l = 4 * count l.self.now

abbrev pub decreases-SyntaxNode::spanless_eq_boxed : goal.decreases-SyntaxNode::spanless_eq_boxed
decreases-SyntaxNode::spanless_eq_boxed l = 4 * count l.self.now - 1

abbrev pub decreases-Node::spanless_eq : goal.decreases-Node::spanless_eq
decreases-Node::spanless_eq l = 4 * count_of_all (below l.self.now) + 2

abbrev pub decreases-spanless::all_alike : goal.decreases-spanless::all_alike
decreases-spanless::all_alike l = 4 * count_of_all l.nodes.now + 1

abbrev pub invariant-spanless::all_alike-loop-i : goal.invariant-spanless::all_alike-loop-i
invariant-spanless::all_alike-loop-i l = map plain (take l.i l.nodes) ≡ map plain (take l.i l.others)
