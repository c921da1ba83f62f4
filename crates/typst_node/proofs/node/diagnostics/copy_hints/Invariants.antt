use Rattle.std.proofs.Common.{◌≡◌, ◌++◌, map, drop}
use Rattle.typst_node.specs.Reported.{placed_hint}
use Rattle.typst_node.proofs.node.diagnostics.copy_hints.Given as goal

abbrev pub invariant-loop-hint : goal.invariant-loop-hint
invariant-loop-hint l = map placed_hint l.copies.items ++ map placed_hint (drop l.hint-index l.hints) ≡ map placed_hint l.hints
