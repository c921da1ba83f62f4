use Rattle.typst_script.proofs.Shown.{size}
use Rattle.typst_script.proofs.show.+show_below.Given as goal

abbrev pub decreases-show_below : goal.decreases-show_below
decreases-show_below g l = size l.node.now.children
