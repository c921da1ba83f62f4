use Rattle.typst_linked.specs.Place.{subtree}
use Rattle.typst_linked.proofs.Searching.{count_there}
use Rattle.typst_linked.proofs.node.LinkedNode.+into_cover.Given as goal

abbrev pub decreases-into_cover : goal.decreases-into_cover
decreases-into_cover l = count_there (subtree l.self)
