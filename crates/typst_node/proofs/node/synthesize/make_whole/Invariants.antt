use Rattle.std.proofs.Common.{◌≡◌, map}
use Rattle.typst_node.specs.Synthesized.{whole_warning}
use Rattle.typst_node.specs.View.{warning_text}
use Rattle.typst_node.proofs.Each.{each}
use Rattle.typst_node.proofs.node.synthesize.make_whole.Given as goal

abbrev pub invariant-loop-warning : goal.invariant-loop-warning
invariant-loop-warning l =
    each warning_text (λ w. whole_warning (warning_text w)) l.warning-index l.warning-items
    ≡ map (λ w. whole_warning (warning_text w)) l.initial.warning-items
