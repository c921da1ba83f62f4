use Rattle.std.proofs.Common.{◌∙◌, sym}
use Rattle.std.proofs.lemmas.Bool.{false≢true}
use Rattle.typst_tree.proofs.Refusals.{filed_at}
use Rattle.typst_tree.proofs.edit.reconcile.Goals as goal

pub misfit-requires : goal.misfit-requires
misfit-requires c = λ fits. false≢true (sym c.if-fits.false ∙ c.fits.ensures.1 fits)

pub reconcile_at-requires-clause-fits_ask_edit_fits : goal.reconcile_at-requires-clause-fits_ask_edit_fits
reconcile_at-requires-clause-fits_ask_edit_fits c =
    let fits = c.fits.ensures.0 c.if-fits.true in
    (fits.0, λ _. (fits.2, fits.3))

pub returns-in-Ok-clause-reconciliation : goal.returns-in-Ok-clause-reconciliation
returns-in-Ok-clause-reconciliation c =
    let fits = c.fits.ensures.0 c.if-fits.true in
    (fits, c.in-Ok.ensures.reconciled fits.1)

pub returns-in-Err-clause-reconciliation : goal.returns-in-Err-clause-reconciliation
returns-in-Err-clause-reconciliation c =
    let fits = c.fits.ensures.0 c.if-fits.true in
    ((c.in-Err.ensures.refused, filed_at c.args.path.now c.args.root.now fits.0 c.requires), c.in-Err.ensures.err)
