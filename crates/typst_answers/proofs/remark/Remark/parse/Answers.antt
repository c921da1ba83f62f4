use Rattle.typst_answers.proofs.Remarks.{no_lone_remark, no_other_remark}
use Rattle.typst_answers.proofs.remark.Remark.parse.Goals as goal

pub returns-in_err-word-clause-every : goal.returns-in_err-word-clause-every
returns-in_err-word-clause-every c remark is = absurd (no_lone_remark remark _ c.in_err-word.ensures.every is)

pub returns-in_default-clause-every : goal.returns-in_default-clause-every
returns-in_default-clause-every c remark is =
    absurd (no_other_remark remark _ _ _ c.in_ok-word.ensures.every c.in_default.not-hint c.in_default.not-hintat c.in_default.not-warnat is)
