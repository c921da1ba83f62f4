use Rattle.std.proofs.Common.{◌≡◌, length}
use Rattle.typst_parser.specs.Walks.{walk_of, walked}
use Rattle.typst_parser.proofs.retag.Walk.run.Given as goal

abbrev pub invariant-loop-map : goal.invariant-loop-map
invariant-loop-map l = walked (walk_of l.self) ≡ walked (walk_of l.initial.self)

abbrev pub decreases-loop-map : goal.decreases-loop-map
decreases-loop-map l = length l.self.events.items
