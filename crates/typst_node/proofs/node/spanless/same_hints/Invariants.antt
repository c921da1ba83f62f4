use Rattle.std.proofs.Common.{◌≡◌, map, take}
use Rattle.typst_node.specs.View.{hint_text}
use Rattle.typst_node.proofs.node.spanless.same_hints.Given as goal

abbrev pub invariant-loop-i : goal.invariant-loop-i
invariant-loop-i l = map hint_text (take l.i l.hints) ≡ map hint_text (take l.i l.others)
