use Rattle.std.proofs.Common.{map, ap, sym, ◌∙◌, arith}
use Rattle.std.proofs.lemmas.List.{with_items_is}
use Rattle.typst_node.specs.Synthesized.{whole_hint}
use Rattle.typst_node.specs.View.{hint_text}
use Rattle.typst_node.specs.declared.node.Hint.{Hint}
use Rattle.typst_node.proofs.Each.{each_all, map_after_map}
use Rattle.typst_node.proofs.node.synthesize.make_hints_whole.Goals as goal

pub returns : goal.returns
returns c =
    let wanted = λ (h : Hint). whole_hint (hint_text h) in
    ap (map hint_text) (with_items_is c.args.hints.now c.loop-hint.hint-items (omega arith))
    ∙ sym (each_all hint_text wanted c.loop-hint.hint-items c.loop-hint.hint-index (omega arith)) ∙ c.loop-hint.invariant
    ∙ ap (map wanted) c.deref_mut-hint-items.ensures.value ∙ map_after_map whole_hint hint_text c.args.hints.now.items
