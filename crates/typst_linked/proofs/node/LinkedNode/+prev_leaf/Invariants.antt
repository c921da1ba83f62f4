use Rattle.std.proofs.Common.{length}
use Rattle.typst_linked.proofs.node.LinkedNode.+prev_leaf.Given as goal

abbrev pub decreases-prev_leaf : goal.decreases-prev_leaf
decreases-prev_leaf l = length l.self.now.path
