use Rattle.std.proofs.Common.{length}
use Rattle.typst_node.proofs.node.narrow.PathEdit.+descend.Given as goal

abbrev pub decreases-descend : goal.decreases-descend
decreases-descend l = length l.steps.now
