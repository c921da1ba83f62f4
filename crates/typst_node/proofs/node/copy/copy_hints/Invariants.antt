use Rattle.std.proofs.Common.{◌≡◌, map, take}
use Rattle.typst_node.specs.View.{hint_text}
use Rattle.typst_node.proofs.node.copy.copy_hints.Given as goal

abbrev pub invariant-loop-hint : goal.invariant-loop-hint
invariant-loop-hint l = map hint_text l.copies.items ≡ map hint_text (take l.hint-index l.hints)
