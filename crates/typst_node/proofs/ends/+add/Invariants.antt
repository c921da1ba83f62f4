use Rattle.std.proofs.Common.{◌+◌, ◌*◌, length}
use Rattle.typst_node.proofs.Blocks.{weight}
use Rattle.typst_node.proofs.ends.+add.Given as goal

abbrev pub decreases-Ends::add : goal.decreases-Ends::add
decreases-Ends::add l = 2 * length l.self.now + 1

abbrev pub decreases-raise_starts : goal.decreases-raise_starts
decreases-raise_starts l = weight l.starts.now
