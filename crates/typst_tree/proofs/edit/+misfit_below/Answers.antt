use Rattle.std.proofs.Common.{◌≡◌, Some, length, refl, arith}
use Rattle.std.specs.Prelude.{slice_get}
use Rattle.std.proofs.lemmas.Option.{slice_get_read}
use Rattle.typst_tree.proofs.MisfitLemmas.{misfit_child, misfit_above}
use Rattle.typst_tree.proofs.edit.+misfit_below.Goals as goal

pub misfit_below-requires : goal.misfit_below-requires
misfit_below-requires t c =
    let kids = c.child_slice-children.result.now in
    let s : slice_get kids c.in-Some.index.now ≡ Some c.index-children-index.result = slice_get_read kids (length kids) c.in-Some.index.now c.index-children-index.result refl c.if-index-children.true c.index-children-index.is in (
      omega (arith, c.decreases, c.in-Some.ensures.cases.1),
      (
        misfit_child c.args.path.now c.in-Some.index.now c.in-Some.rest.now c.args.range.start c.args.range.end c.args.node.now c.index-children-index.result kids c.in-Some.ensures.cases.0 c.child_slice-children.ensures.children s c.requires.misfit,
        omega (arith, c.in-Some.ensures.cases.1, c.requires.depth),
      ),
    )

pub returns-then-index-children : goal.returns-then-index-children
returns-then-index-children t c =
    let kids = c.child_slice-children.result.now in
    let s : slice_get kids c.in-Some.index.now ≡ Some c.index-children-index.result = slice_get_read kids (length kids) c.in-Some.index.now c.index-children-index.result refl c.if-index-children.true c.index-children-index.is in
    misfit_above c.args.depth c.args.path.now c.in-Some.index.now c.in-Some.rest.now c.args.range.start c.args.range.end c.args.node.now c.index-children-index.result kids c.misfit_below.result c.in-Some.ensures.cases.0 c.child_slice-children.ensures.children s c.misfit_below.ensures
