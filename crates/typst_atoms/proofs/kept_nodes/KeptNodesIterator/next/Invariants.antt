use Rattle.std.proofs.Common.{◌≡◌, length}
use Rattle.typst_atoms.specs.KeptNodes.{kept_left}
use Rattle.typst_atoms.proofs.kept_nodes.KeptNodesIterator.next.Given as goal

abbrev pub invariant-loop-self : goal.invariant-loop-self
invariant-loop-self l = kept_left l.self ≡ kept_left l.initial.self

abbrev pub decreases-loop-self : goal.decreases-loop-self
decreases-loop-self l = length l.self.rest.now
