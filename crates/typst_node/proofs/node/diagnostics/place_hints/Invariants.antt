use Rattle.std.proofs.Common.{◌≡◌, ◌++◌, map, drop}
use Rattle.typst_node.specs.Diagnostics.{placed}
use Rattle.typst_node.specs.Reported.{placed_hint}
use Rattle.typst_node.specs.View.{hint_text}
use Rattle.typst_node.proofs.node.diagnostics.place_hints.Given as goal

abbrev pub invariant-loop-hint : goal.invariant-loop-hint
invariant-loop-hint l =
    map placed_hint l.placed.items ++ map (placed l.span) (map hint_text (drop l.hint-index l.hints)) ≡ map (placed l.span) (map hint_text l.hints)
