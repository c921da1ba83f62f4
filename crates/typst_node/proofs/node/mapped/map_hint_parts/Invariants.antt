use Rattle.std.proofs.Common.{◌≡◌, map}
use Rattle.typst_base.specs.SubRange.{interval}
use Rattle.typst_node.specs.Mapped.{mapped_hint}
use Rattle.typst_node.specs.View.{hint_text}
use Rattle.typst_node.proofs.Each.{each}
use Rattle.typst_node.proofs.node.mapped.map_hint_parts.Given as goal

abbrev pub invariant-loop-hint : goal.invariant-loop-hint
invariant-loop-hint l =
    each hint_text (λ x. mapped_hint l.mapper (interval l.at l.end) (hint_text x)) l.hint-index l.hint-items
    ≡ map (λ x. mapped_hint l.mapper (interval l.at l.end) (hint_text x)) l.initial.hint-items
