use Rattle.std.proofs.Common.{◌≡◌, ℕ, List, refl, subst}
use Rattle.std.specs.Prelude.{OnErr}
use Rattle.typst_node.specs.Paths.{IsPath}
use Rattle.typst_node.specs.Edit.{Fits, edit_of}
use Rattle.typst_node.specs.Accepted.{IsAccepted}
use Rattle.typst_node.specs.Refusals.{IsRefusedBy}
use Rattle.typst_tree.proofs.Refusals.{filed_at}
use Rattle.typst_tree.proofs.session.replace.Goals as goal

pub returns-in-Some-Ok : goal.returns-in-Some-Ok
returns-in-Some-Ok c =
    subst (λ (p : List ℕ). IsAccepted (edit_of p c.args.range c.args.replacement.items) c.args.root.now c.in-Some-Ok.renumbered c.try_replace_at.new.self) c.deref.ensures.value
    (rw c.in-Some-Ok.field-0-is at c.in-Some-Ok.ensures.accepted)

pub returns-in-Some-Err : goal.returns-in-Some-Err
returns-in-Some-Err c =
    let old = c.args.root.now in
    let why = c.in-Some-Err.error in
    let fit : Fits (edit_of c.deref.result.now c.args.range c.args.replacement.items) old = c.in-Some-Err.ensures.fits.0 refl in
    let there : IsPath c.args.path.now.items old = subst (λ (p : List ℕ). IsPath p old) c.deref.ensures.value fit.0 in
    let refused : IsRefusedBy why (edit_of c.args.path.now.items c.args.range c.args.replacement.items) old =
    subst (λ (p : List ℕ). IsRefusedBy why (edit_of p c.args.range c.args.replacement.items) old) c.deref.ensures.value (rw c.in-Some-Err.field-0-is at c.in-Some-Err.ensures.refused) in
    (refused, filed_at c.args.path.now.items old there c.requires, subst (λ r. OnErr r (c.try_replace_at.new.self ≡ old)) c.in-Some-Err.field-0-is c.in-Some-Err.ensures.err)
