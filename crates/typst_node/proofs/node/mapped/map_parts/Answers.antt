use Rattle.std.proofs.Common.{map, reverse, ap, sym, ◌∙◌, arith}
use Rattle.std.proofs.lemmas.List.{with_items_is}
use Rattle.typst_base.specs.SubRange.{interval}
use Rattle.typst_node.specs.Mapped.{mapped_warning}
use Rattle.typst_node.specs.View.{warning_text}
use Rattle.typst_node.specs.declared.node.Warning.{Warning}
use Rattle.typst_node.proofs.Each.{each_all, map_after_map, map-reverse}
use Rattle.typst_node.proofs.node.mapped.map_parts.Goals as goal

pub returns : goal.returns
returns c =
    let change = mapped_warning c.args.mapper.now (interval c.args.at c.args.end) in
    let wanted = λ (w : Warning). change (warning_text w) in
    ap (λ ws. reverse (map warning_text ws)) (with_items_is c.args.warnings.now c.loop-warning.warning-items (omega arith))
    ∙ ap reverse
    (sym (each_all warning_text wanted c.loop-warning.warning-items c.loop-warning.warning-index (omega arith)) ∙ c.loop-warning.invariant
    ∙ ap (map wanted) c.deref_mut-warning-items.ensures.value ∙ map_after_map change warning_text c.args.warnings.now.items)
    ∙ sym (map-reverse change (map warning_text c.args.warnings.now.items))
