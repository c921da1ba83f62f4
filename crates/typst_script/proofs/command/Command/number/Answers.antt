use Rattle.std.proofs.Common.{arith, ◌≡◌, ◌∙◌, sym, ap}
use Rattle.std.specs.Str.Parse.{digits_value}
use Rattle.typst_script.proofs.Lines.{number_rest}
use Rattle.typst_script.proofs.command.Command.number.Goals as goal

pub returns-in_err-file-clause-every : goal.returns-in_err-file-clause-every
returns-in_err-file-clause-every c command is =
    let it = number_rest command _ is in
    absurd (c.in_err-file.ensures.every it.word _ it.split)

pub returns-in_err-low-clause-every : goal.returns-in_err-low-clause-every
returns-in_err-low-clause-every c command is =
    let it = number_rest command _ is in
    let same = c.in_ok-file.ensures.every it.word _ it.split in
    absurd (c.in_err-low.ensures.every it.from it.to (rw same.1 it.split_range))

pub returns-in_err-file-2-clause-every : goal.returns-in_err-file-2-clause-every
returns-in_err-file-2-clause-every c command is =
    let it = number_rest command _ is in
    let same = c.in_ok-file.ensures.every it.word _ it.split in
    rw c.from_residual-in_err-file-2.ensures (c.in_err-file-2.ensures.every it.file (rw same.0 it.number))

pub returns-in_err-low-2-clause-every : goal.returns-in_err-low-2-clause-every
returns-in_err-low-2-clause-every c command is =
    let it = number_rest command _ is in
    let same = c.in_ok-file.ensures.every it.word _ it.split in
    let ends = c.in_ok-low.ensures.every it.from it.to (rw same.1 it.split_range) in
    rw c.from_residual-in_err-low-2.ensures (c.in_err-low-2.ensures.every it.low (rw ends.0 it.low_number))

pub returns-in_err-high-clause-every : goal.returns-in_err-high-clause-every
returns-in_err-high-clause-every c command is =
    let it = number_rest command _ is in
    let same = c.in_ok-file.ensures.every it.word _ it.split in
    let ends = c.in_ok-low.ensures.every it.from it.to (rw same.1 it.split_range) in
    rw c.from_residual-in_err-high.ensures (c.in_err-high.ensures.every it.high (rw ends.1 it.high_number))

pub returns-then-low-lt2-clause-every : goal.returns-then-low-lt2-clause-every
returns-then-low-lt2-clause-every c command is =
    let it = number_rest command _ is in
    let same = c.in_ok-file.ensures.every it.word _ it.split in
    let ends = c.in_ok-low.ensures.every it.from it.to (rw same.1 it.split_range) in
    let low : c.in_ok-low-2.low ≡ it.low = sym c.in_ok-low-2.ensures.reads.1 ∙ ap (digits_value 10) ends.0 ∙ it.low_number.1 in
    let high : c.in_ok-high.high ≡ it.high = sym c.in_ok-high.ensures.reads.1 ∙ ap (digits_value 10) ends.1 ∙ it.high_number.1 in
    absurd (omega (arith, low, high, it.low_fits, it.high_fits, c.then-low-lt2.either))
