use Rattle.std.proofs.Common.{◌≡◌, length}
use Rattle.typst_atoms.specs.MathItems.{items_left}
use Rattle.typst_atoms.proofs.math_items.MathItemsDoubleEndedIterator.next_back.Given as goal

abbrev pub invariant-loop-last : goal.invariant-loop-last
invariant-loop-last l = items_left l.self ≡ items_left l.initial.self

abbrev pub decreases-loop-last : goal.decreases-loop-last
decreases-loop-last l = length l.self.rest.now
