use Rattle.std.proofs.Common.{◌≡◌, drop}
use Rattle.std.specs.List.{position_from}
use Rattle.typst_linked.specs.Siblings.{is_solid, solid_behind}
use Rattle.typst_linked.proofs.siblings.first_solid.Given as goal

abbrev pub invariant-loop-behind : goal.invariant-loop-behind
invariant-loop-behind l = solid_behind l.index l.nodes ≡ position_from is_solid l.behind (drop l.behind l.nodes)
