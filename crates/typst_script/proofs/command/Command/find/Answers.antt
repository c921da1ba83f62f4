use Rattle.std.proofs.Common.{arith, ◌≡◌, ◌∙◌, sym, ap}
use Rattle.std.specs.Str.Parse.{digits_value}
use Rattle.typst_script.proofs.Lines.{find_rest}
use Rattle.typst_script.proofs.command.Command.find.Goals as goal

pub returns-in_err-file-clause-every : goal.returns-in_err-file-clause-every
returns-in_err-file-clause-every c command is =
    let it = find_rest command _ is in
    absurd (c.in_err-file.ensures.every it.word it.other it.split)

pub returns-in_err-file-2-clause-every : goal.returns-in_err-file-2-clause-every
returns-in_err-file-2-clause-every c command is =
    let it = find_rest command _ is in
    let same = c.in_ok-file.ensures.every it.word it.other it.split in
    rw c.from_residual-in_err-file-2.ensures (c.in_err-file-2.ensures.every it.file (rw same.0 it.number))

pub returns-in_err-number-clause-every : goal.returns-in_err-number-clause-every
returns-in_err-number-clause-every c command is =
    let it = find_rest command _ is in
    let same = c.in_ok-file.ensures.every it.word it.other it.split in
    rw c.from_residual-in_err-number.ensures (c.in_err-number.ensures.every it.num (rw same.1 it.num_number))

pub returns-then-number-lt2-clause-every : goal.returns-then-number-lt2-clause-every
returns-then-number-lt2-clause-every c command is =
    let it = find_rest command _ is in
    let same = c.in_ok-file.ensures.every it.word it.other it.split in
    let num : c.in_ok-number.number ≡ it.num = sym c.in_ok-number.ensures.reads.1 ∙ ap (digits_value 10) same.1 ∙ it.num_number.1 in
    absurd (omega (arith, num, it.low_fits, it.high_fits, c.then-number-lt2.either))
