use Rattle.std.proofs.Common.{length}
use Rattle.typst_tree.proofs.edit.+misfit_below.Given as goal

abbrev pub decreases-misfit_below : goal.decreases-misfit_below
decreases-misfit_below l = length l.path.now
