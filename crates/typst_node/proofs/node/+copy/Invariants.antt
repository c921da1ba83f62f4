use Rattle.std.proofs.Common.{◌≡◌, ◌++◌, ◌+◌, ◌*◌, take}
use Rattle.typst_node.specs.Count.{count, count_of_all}
use Rattle.typst_node.proofs.node.+copy.Given as goal

abbrev pub decreases-copy::SyntaxNodeClone::clone : goal.decreases-copy::SyntaxNodeClone::clone
decreases-copy::SyntaxNodeClone::clone l = 4 * count l.self.now

abbrev pub decreases-InnerNode::copy : goal.decreases-InnerNode::copy
decreases-InnerNode::copy l = 4 * count_of_all l.self.now.children.items + 3

abbrev pub decreases-copy::push_copies : goal.decreases-copy::push_copies
decreases-copy::push_copies l = 4 * count_of_all l.nodes.now + 2

abbrev pub decreases-copy::push_copy : goal.decreases-copy::push_copy
decreases-copy::push_copy l = 4 * count l.node.now + 1

abbrev pub invariant-copy::push_copies-loop-node : goal.invariant-copy::push_copies-loop-node
invariant-copy::push_copies-loop-node l = l.out.items ≡ l.initial.out.items ++ take l.node-index l.nodes
