use Rattle.std.proofs.Common.{◌≡◌, map}
use Rattle.typst_base.specs.SubRange.{interval}
use Rattle.typst_node.specs.Mapped.{mapped_warning}
use Rattle.typst_node.specs.View.{warning_text}
use Rattle.typst_node.proofs.Each.{each}
use Rattle.typst_node.proofs.node.mapped.map_parts.Given as goal

abbrev pub invariant-loop-warning : goal.invariant-loop-warning
invariant-loop-warning l =
    each warning_text (λ x. mapped_warning l.mapper (interval l.at l.end) (warning_text x)) l.warning-index l.warning-items
    ≡ map (λ x. mapped_warning l.mapper (interval l.at l.end) (warning_text x)) l.initial.warning-items
