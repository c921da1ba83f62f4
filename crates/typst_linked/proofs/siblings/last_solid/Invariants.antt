use Rattle.std.proofs.Common.{◌≡◌}
use Rattle.typst_linked.specs.Siblings.{solid_before}
use Rattle.typst_linked.proofs.siblings.last_solid.Given as goal

abbrev pub invariant-loop-before : goal.invariant-loop-before
invariant-loop-before l = solid_before l.index l.nodes ≡ solid_before l.before l.nodes
