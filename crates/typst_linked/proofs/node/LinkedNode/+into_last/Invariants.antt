use Rattle.typst_linked.specs.Place.{subtree}
use Rattle.typst_linked.proofs.Searching.{count_there}
use Rattle.typst_linked.proofs.node.LinkedNode.+into_last.Given as goal

abbrev pub decreases-into_last : goal.decreases-into_last
decreases-into_last l = count_there (subtree l.self)
