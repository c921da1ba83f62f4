use Rattle.std.proofs.Common.{length}
use Rattle.typst_linked.proofs.node.LinkedNode.+next_leaf.Given as goal

abbrev pub decreases-next_leaf : goal.decreases-next_leaf
decreases-next_leaf l = length l.self.now.path
