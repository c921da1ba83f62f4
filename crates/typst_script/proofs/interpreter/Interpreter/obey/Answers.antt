use Rattle.std.proofs.Common.{inr}
use Rattle.typst_script.proofs.interpreter.Interpreter.obey.Goals as goal

pub returns-in-Err-clause-err : goal.returns-in-Err-clause-err
returns-in-Err-clause-err g c =
    inr (c.in-Some.command, c.in-Err.error, c.in-Some.ensures.reads, c.in-Err.ensures.err, c.at.ensures)
