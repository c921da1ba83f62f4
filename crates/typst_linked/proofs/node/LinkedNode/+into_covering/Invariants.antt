use Rattle.typst_linked.specs.Place.{subtree}
use Rattle.typst_linked.proofs.Searching.{count_there}
use Rattle.typst_linked.proofs.node.LinkedNode.+into_covering.Given as goal

abbrev pub decreases-into_covering : goal.decreases-into_covering
decreases-into_covering l = count_there (subtree l.self)
