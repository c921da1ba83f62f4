use Rattle.typst_drawn.proofs.Smaller.{size}
use Rattle.typst_drawn.proofs.words.+push_tree.Given as goal

abbrev pub decreases-push_tree : goal.decreases-push_tree
decreases-push_tree l = size l.node.now.children
