use Rattle.typst_linked.specs.Place.{subtree}
use Rattle.typst_linked.proofs.Searching.{count_there}
use Rattle.typst_linked.proofs.node.LinkedNode.+into_covered.Given as goal

abbrev pub decreases-into_covered : goal.decreases-into_covered
decreases-into_covered l = count_there (subtree l.self)
