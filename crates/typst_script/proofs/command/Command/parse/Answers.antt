use Rattle.std.specs.Prelude.{IsSome, is_some}
use Rattle.std.proofs.Common.{ap}
use Rattle.typst_script.proofs.Lines.{no_other_word, lone_line}
use Rattle.typst_script.proofs.command.Command.parse.Goals as goal

pub returns-in_default-clause-every : goal.returns-in_default-clause-every
returns-in_default-clause-every c command is =
    lone_line (IsSome c.lone.result) command _ c.in_default.ensures.every (λ root. ap is_some (c.lone.ensures.root root)) (λ run. ap is_some (c.lone.ensures.run run)) (λ show. ap is_some (c.lone.ensures.show show)) is

pub returns-in_default-word-clause-every : goal.returns-in_default-word-clause-every
returns-in_default-word-clause-every c command is =
    absurd (no_other_word command _ _ _ c.in-Some.ensures.every c.in-Some.ensures.reads c.in_default-word.not-leaf c.in_default-word.not-error c.in_default-word.not-warn c.in_default-word.not-inner c.in_default-word.not-number c.in_default-word.not-replace c.in_default-word.not-find is)
