use Rattle.std.proofs.Common.{◌≡◌, map}
use Rattle.typst_node.specs.Synthesized.{whole_hint}
use Rattle.typst_node.specs.View.{hint_text}
use Rattle.typst_node.proofs.Each.{each}
use Rattle.typst_node.proofs.node.synthesize.make_hints_whole.Given as goal

abbrev pub invariant-loop-hint : goal.invariant-loop-hint
invariant-loop-hint l =
    each hint_text (λ h. whole_hint (hint_text h)) l.hint-index l.hint-items
    ≡ map (λ h. whole_hint (hint_text h)) l.initial.hint-items
