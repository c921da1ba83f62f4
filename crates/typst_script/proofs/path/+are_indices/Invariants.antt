use Rattle.std.proofs.Common.{length}
use Rattle.typst_script.proofs.path.+are_indices.Given as goal

abbrev pub decreases-are_indices : goal.decreases-are_indices
decreases-are_indices l = length l.word.now
