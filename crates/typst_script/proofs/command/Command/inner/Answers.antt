use Rattle.typst_script.proofs.Lines.{inner_rest}
use Rattle.typst_script.proofs.command.Command.inner.Goals as goal

pub returns-in_err-kind-clause-every : goal.returns-in_err-kind-clause-every
returns-in_err-kind-clause-every c command is =
    let it = inner_rest command _ is in
    absurd (c.in_err-kind.ensures.every it.word it.other it.split)

pub returns-in_err-kind-2-clause-every : goal.returns-in_err-kind-2-clause-every
returns-in_err-kind-2-clause-every c command is =
    let it = inner_rest command _ is in
    let same = c.in_ok-kind.ensures.every it.word it.other it.split in
    rw c.from_residual-in_err-kind-2.ensures (c.in_err-kind-2.ensures.every it.kind (rw same.0 it.number))

pub returns-in_err-count-clause-every : goal.returns-in_err-count-clause-every
returns-in_err-count-clause-every c command is =
    let it = inner_rest command _ is in
    let same = c.in_ok-kind.ensures.every it.word it.other it.split in
    rw c.from_residual-in_err-count.ensures (c.in_err-count.ensures.every it.count (rw same.1 it.count_number))
