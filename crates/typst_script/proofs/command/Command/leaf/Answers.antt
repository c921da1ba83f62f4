use Rattle.typst_script.proofs.Lines.{leaf_rest}
use Rattle.typst_script.proofs.command.Command.leaf.Goals as goal

pub returns-in_err-kind-clause-every : goal.returns-in_err-kind-clause-every
returns-in_err-kind-clause-every c command is =
    let it = leaf_rest command _ is in
    absurd (c.in_err-kind.ensures.every it.word it.text it.split)

pub returns-in_err-kind-2-clause-every : goal.returns-in_err-kind-2-clause-every
returns-in_err-kind-2-clause-every c command is =
    let it = leaf_rest command _ is in
    let same = c.in_ok-kind.ensures.every it.word it.text it.split in
    rw c.from_residual-in_err-kind-2.ensures (c.in_err-kind-2.ensures.every it.kind (rw same.0 it.number))
