use Rattle.std.proofs.Common.{◌≡◌, drop}
use Rattle.typst_parser.specs.Retag.{effect_in}
use Rattle.typst_parser.proofs.retag.effect_in.Given as goal

abbrev pub invariant-loop-change : goal.invariant-loop-change
invariant-loop-change l = effect_in (drop l.change-index l.changes) l.event ≡ effect_in l.changes l.event
