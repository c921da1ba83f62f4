use Rattle.std.proofs.Common.{◌≡◌, ◌≢◌, Some}
use Rattle.typst_node.specs.Tree.{Tree}
use Rattle.typst_node.specs.Labels.{number}
use Rattle.typst_linked.specs.Place.{subtree}
use Rattle.typst_node.specs.BinaryDigits.{binary_digits}
use Rattle.typst_linked.proofs.Searching.{Searching, count_there}
use Rattle.typst_linked.proofs.node.LinkedNode.find_number.Given as goal

abbrev pub invariant-loop-next : goal.invariant-loop-next
invariant-loop-next l = (s : Tree) → subtree l.self ≡ Some s → (x : Searching binary_digits s l.self l.here l.wanted l.looks) × (number x.node.label ≢ l.wanted)

abbrev pub decreases-loop-next : goal.decreases-loop-next
decreases-loop-next l = count_there (subtree l.here)
