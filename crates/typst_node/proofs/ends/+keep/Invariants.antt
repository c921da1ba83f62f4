use Rattle.std.proofs.Common.{◌+◌, ◌*◌, length}
use Rattle.typst_node.proofs.Blocks.{weight}
use Rattle.typst_node.proofs.ends.+keep.Given as goal

abbrev pub decreases-Ends::truncate : goal.decreases-Ends::truncate
decreases-Ends::truncate l = 2 * length l.self.now + 1

abbrev pub decreases-keep : goal.decreases-keep
decreases-keep l = weight l.starts.now
