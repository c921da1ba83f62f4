use Rattle.std.proofs.Common.{◌≡◌, length}
use Rattle.typst_atoms.specs.MathItems.{items_left}
use Rattle.typst_atoms.proofs.math_items.MathItemsIterator.next.Given as goal

abbrev pub invariant-loop-self : goal.invariant-loop-self
invariant-loop-self l = items_left l.self ≡ items_left l.initial.self

abbrev pub decreases-loop-self : goal.decreases-loop-self
decreases-loop-self l = length l.self.rest.now
