use Rattle.std.proofs.Common.{◌≡◌}
use Rattle.typst_node.specs.Count.{count}
use Rattle.typst_node.specs.Labels.{number}
use Rattle.typst_linked.proofs.Descent.{Descent}
use Rattle.typst_linked.proofs.diag_places.range_of_number.Given as goal

abbrev pub invariant-loop-number : goal.invariant-loop-number
invariant-loop-number l = (number l.node.label ≡ l.number) × Descent l.root l.node l.begin l.wanted l.looks

abbrev pub decreases-loop-number : goal.decreases-loop-number
decreases-loop-number l = count l.node
