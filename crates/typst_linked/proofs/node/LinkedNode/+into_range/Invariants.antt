use Rattle.typst_linked.specs.Place.{subtree}
use Rattle.typst_linked.proofs.Searching.{count_there}
use Rattle.typst_linked.proofs.node.LinkedNode.+into_range.Given as goal

abbrev pub decreases-into_range : goal.decreases-into_range
decreases-into_range l = count_there (subtree l.self)
