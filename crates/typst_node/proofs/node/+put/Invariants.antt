use Rattle.std.proofs.Common.{◌+◌, ◌*◌, length}
use Rattle.typst_node.proofs.node.+put.Given as goal

abbrev pub decreases-InnerNode::put_in : goal.decreases-InnerNode::put_in
decreases-InnerNode::put_in l = 2 * length l.path.now + 1

abbrev pub decreases-SyntaxNode::put_at : goal.decreases-SyntaxNode::put_at
decreases-SyntaxNode::put_at l = 2 * length l.path.now
