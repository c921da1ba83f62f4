use Rattle.typst_bench.proofs.walking.+below.Given as goal

abbrev pub decreases-below : goal.decreases-below
decreases-below l = l.levels
