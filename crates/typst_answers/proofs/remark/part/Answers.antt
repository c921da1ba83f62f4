use Rattle.std.proofs.Common.{◌∷◌, ◌++◌, refl}
use Rattle.typst_script.proofs.Blanks.{no_blank_in_digits}
use Rattle.typst_script.specs.Word.{blank, IsSplit}
use Rattle.typst_answers.proofs.remark.part.Goals as goal

pub returns-in_err-start-clause-every : goal.returns-in_err-start-clause-every
returns-in_err-start-clause-every c start end last (from, to, is, from_number, to_number) =
    absurd (c.in_err-start.ensures.every from (to ++ blank ∷ last) (is, no_blank_in_digits from from_number.0.1))

pub returns-in_err-end-clause-every : goal.returns-in_err-end-clause-every
returns-in_err-end-clause-every c start end last (from, to, is, from_number, to_number) =
    let first = c.in_ok-start.ensures.every from (to ++ blank ∷ last) (is, no_blank_in_digits from from_number.0.1) in
    let split : IsSplit (to ++ blank ∷ last) to last = (refl, no_blank_in_digits to to_number.0.1) in
    absurd (c.in_err-end.ensures.every to last (rw first.1 split))

pub returns-in_err-start-2-clause-every : goal.returns-in_err-start-2-clause-every
returns-in_err-start-2-clause-every c start end last (from, to, is, from_number, to_number) =
    let first = c.in_ok-start.ensures.every from (to ++ blank ∷ last) (is, no_blank_in_digits from from_number.0.1) in
    rw c.from_residual-in_err-start-2.ensures (c.in_err-start-2.ensures.every start (rw first.0 from_number))

pub returns-in_err-end-2-clause-every : goal.returns-in_err-end-2-clause-every
returns-in_err-end-2-clause-every c start end last (from, to, is, from_number, to_number) =
    let first = c.in_ok-start.ensures.every from (to ++ blank ∷ last) (is, no_blank_in_digits from from_number.0.1) in
    let split : IsSplit (to ++ blank ∷ last) to last = (refl, no_blank_in_digits to to_number.0.1) in
    let second = c.in_ok-end.ensures.every to last (rw first.1 split) in
    rw c.from_residual-in_err-end-2.ensures (c.in_err-end-2.ensures.every end (rw second.0 to_number))
