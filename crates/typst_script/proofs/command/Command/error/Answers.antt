use Rattle.typst_script.proofs.Lines.{error_rest}
use Rattle.typst_script.proofs.command.Command.error.Goals as goal

pub returns-in_err-message-clause-every : goal.returns-in_err-message-clause-every
returns-in_err-message-clause-every c command is =
    let it = error_rest command _ is in
    absurd (c.in_err-message.ensures.every it.0.0 it.0.1 it.1)
