use Rattle.std.proofs.Common.{◌≡◌, ◌++◌, drop, length, reverse}
use Rattle.typst_parser.specs.Unique.{faulted_back}
use Rattle.typst_parser.proofs.unique.take_faulted.Given as goal

abbrev pub invariant-loop-at : goal.invariant-loop-at
invariant-loop-at l = l.taken.items ++ faulted_back 0 l.end (drop l.at l.faults) (reverse l.events.items) ≡ faulted_back 0 l.end l.faults (reverse l.fn.events.items)

abbrev pub decreases-loop-at : goal.decreases-loop-at
decreases-loop-at l = length l.events.items
