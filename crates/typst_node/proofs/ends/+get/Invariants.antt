use Rattle.std.proofs.Common.{◌+◌, ◌*◌, length}
use Rattle.typst_node.proofs.Blocks.{weight}
use Rattle.typst_node.proofs.ends.+get.Given as goal

abbrev pub decreases-Ends::get : goal.decreases-Ends::get
decreases-Ends::get l = 2 * length l.self.now + 1

abbrev pub decreases-start_of : goal.decreases-start_of
decreases-start_of l = weight l.starts.now
