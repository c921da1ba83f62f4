use Rattle.typst_answers.proofs.Remarks.{warn_at_rest}
use Rattle.typst_answers.proofs.remark.Remark.warn_at.Goals as goal

pub returns-in_err-start-clause-every : goal.returns-in_err-start-clause-every
returns-in_err-start-clause-every c remark is =
    let it = warn_at_rest remark _ is in
    rw c.from_residual.ensures (c.in_err-start.ensures.every it.start it.end_ it.last it.is)
