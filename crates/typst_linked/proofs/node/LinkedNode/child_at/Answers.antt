use Rattle.std.proofs.Common.{◌≡◌, ◌∙◌, length, ap, sym, refl, arith, Some}
use Rattle.std.specs.Prelude.{slice_get}
use Rattle.std.proofs.lemmas.Option.{slice_get_read}
use Rattle.typst_node.specs.Tree.{trees}
use Rattle.typst_linked.proofs.Places.{last_step-push}
use Rattle.typst_linked.proofs.Child.{at_place, child_is_at}
use Rattle.typst_node.proofs.Offsets.{length-text, text_of_all-take}
use Rattle.typst_linked.proofs.node.LinkedNode.child_at.Goals as goal

pub overflow_add-offset : goal.overflow_add-offset
overflow_add-offset c =
    let node = c.above.inside.node.now in
    let own = at_place _ _ _ _ (c.above.view_is ∙ c.deref-above.ensures) c.above.invariant.0 in
    let begin = c.requires.begin node own.node_is in
    omega (arith, begin, own.within, own.fits, length-text node, text_of_all-take (trees node.children) c.args.index)

pub invariant_of-result : goal.invariant_of-result
invariant_of-result c =
    let node = c.above.inside.node.now in
    let own = at_place _ _ _ _ (c.above.view_is ∙ c.deref-above.ensures) c.above.invariant.0 in
    let begin = c.requires.begin node own.node_is in
    let within = c.requires.child node own.node_is in
    let s : slice_get (trees node.children) c.args.index ≡ Some c.index-child_slice-index.result =
    rw (← c.child_slice.ensures.children) (slice_get_read c.child_slice.result.now (length c.child_slice.result.now) c.args.index c.index-child_slice-index.result refl (omega (arith, ap length c.child_slice.ensures.children, within)) c.index-child_slice-index.is) in
    (child_is_at _ _ _ _ _ _ c.child_slice.result.now own s c.child_slice.ensures.children c.child_slice.ensures.inner_only (omega (arith, begin)), sym (last_step-push c.args.parent.value.path c.args.index))
