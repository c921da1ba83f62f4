use Rattle.std.proofs.Common.{◌≡◌, length}
use Rattle.typst_atoms.specs.KeptNodes.{kept_left}
use Rattle.typst_atoms.proofs.kept_nodes.KeptNodesDoubleEndedIterator.next_back.Given as goal

abbrev pub invariant-loop-last : goal.invariant-loop-last
invariant-loop-last l = kept_left l.self ≡ kept_left l.initial.self

abbrev pub decreases-loop-last : goal.decreases-loop-last
decreases-loop-last l = length l.self.rest.now
