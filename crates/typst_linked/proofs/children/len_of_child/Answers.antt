use Rattle.std.proofs.Common.{◌≡◌, ◌+◌, length, ap, refl, arith, Some}
use Rattle.std.specs.Prelude.{slice_get}
use Rattle.std.proofs.lemmas.Option.{slice_get_read}
use Rattle.typst_node.specs.Tree.{trees}
use Rattle.typst_node.proofs.Offsets.{length-text, text_of_all-more, text_of_all-take}
use Rattle.typst_linked.proofs.children.len_of_child.Goals as goal

pub returns-clause-more : goal.returns-clause-more
returns-clause-more c =
    let ts = trees c.args.node.now.children in
    let s : slice_get ts c.args.index ≡ Some c.index-child_slice-index.result =
    rw (← c.child_slice.ensures.children) (slice_get_read c.child_slice.result.now (length c.child_slice.result.now) c.args.index c.index-child_slice-index.result refl (omega (arith, ap length c.child_slice.ensures.children, c.requires)) c.index-child_slice-index.is) in
    omega (arith, text_of_all-more ts c.args.index c.index-child_slice-index.result s)

pub returns-clause-fits : goal.returns-clause-fits
returns-clause-fits c = omega (arith, length-text c.args.node.now, text_of_all-take (trees c.args.node.now.children) (c.args.index + 1))
