use Rattle.std.proofs.Common.{◌≡◌, refl, subst}
use Rattle.std.specs.Prelude.{OnErr}
use Rattle.typst_node.specs.Edit.{Fits, edit_of}
use Rattle.typst_node.specs.Refusals.{IsRefusedBy}
use Rattle.typst_tree.proofs.Refusals.{filed_at}
use Rattle.typst_tree.proofs.edit.edit.Goals as goal

pub returns-in-Some-Err-clause-edit : goal.returns-in-Some-Err-clause-edit
returns-in-Some-Err-clause-edit c =
    let old = c.args.root.now in
    let e = edit_of c.args.path.now c.args.range c.args.nodes.items in
    let fit : Fits e old = c.in-Some-Err.ensures.fits.0 refl in
    let refused : IsRefusedBy c.in-Some-Err.error e old = rw c.in-Some-Err.field-0-is at c.in-Some-Err.ensures.refused in
    ((refused, filed_at c.args.path.now old fit.0 c.requires), subst (λ r. OnErr r (c.try_replace_at.new.self ≡ old)) c.in-Some-Err.field-0-is c.in-Some-Err.ensures.err)
