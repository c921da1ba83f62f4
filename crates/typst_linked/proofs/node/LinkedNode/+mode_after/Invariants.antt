use Rattle.std.proofs.Common.{length}
use Rattle.typst_linked.proofs.node.LinkedNode.+mode_after.Given as goal

abbrev pub decreases-mode_after : goal.decreases-mode_after
decreases-mode_after l = length l.self.now.path
