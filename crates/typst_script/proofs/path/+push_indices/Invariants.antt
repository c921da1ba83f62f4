use Rattle.std.proofs.Common.{length}
use Rattle.typst_script.proofs.path.+push_indices.Given as goal

abbrev pub decreases-push_indices : goal.decreases-push_indices
decreases-push_indices l = length l.word.now
