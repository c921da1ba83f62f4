use Rattle.std.proofs.Common.{◌∷◌, ◌++◌}
use Rattle.typst_script.specs.Word.{blank}
use Rattle.typst_script.proofs.Lines.{replace_rest}
use Rattle.typst_script.proofs.command.Command.replace.Goals as goal

pub returns-in_err-path-clause-every : goal.returns-in_err-path-clause-every
returns-in_err-path-clause-every c command is =
    let it = replace_rest command _ is in
    absurd (c.in_err-path.ensures.every it.path (it.from ++ blank ∷ (it.to ++ blank ∷ it.other)) it.split)

pub returns-in_err-start-clause-every : goal.returns-in_err-start-clause-every
returns-in_err-start-clause-every c command is =
    let it = replace_rest command _ is in
    let same = c.in_ok-path.ensures.every it.path (it.from ++ blank ∷ (it.to ++ blank ∷ it.other)) it.split in
    absurd (c.in_err-start.ensures.every it.from (it.to ++ blank ∷ it.other) (rw same.1 it.split_range))

pub returns-in_err-end-clause-every : goal.returns-in_err-end-clause-every
returns-in_err-end-clause-every c command is =
    let it = replace_rest command _ is in
    let same = c.in_ok-path.ensures.every it.path (it.from ++ blank ∷ (it.to ++ blank ∷ it.other)) it.split in
    let from = c.in_ok-start.ensures.every it.from (it.to ++ blank ∷ it.other) (rw same.1 it.split_range) in
    absurd (c.in_err-end.ensures.every it.to it.other (rw from.1 it.split_end))

pub returns-in_err-start-2-clause-every : goal.returns-in_err-start-2-clause-every
returns-in_err-start-2-clause-every c command is =
    let it = replace_rest command _ is in
    let same = c.in_ok-path.ensures.every it.path (it.from ++ blank ∷ (it.to ++ blank ∷ it.other)) it.split in
    let from = c.in_ok-start.ensures.every it.from (it.to ++ blank ∷ it.other) (rw same.1 it.split_range) in
    rw c.from_residual-in_err-start-2.ensures (c.in_err-start-2.ensures.every it.start (rw from.0 it.start_number))

pub returns-in_err-end-2-clause-every : goal.returns-in_err-end-2-clause-every
returns-in_err-end-2-clause-every c command is =
    let it = replace_rest command _ is in
    let same = c.in_ok-path.ensures.every it.path (it.from ++ blank ∷ (it.to ++ blank ∷ it.other)) it.split in
    let from = c.in_ok-start.ensures.every it.from (it.to ++ blank ∷ it.other) (rw same.1 it.split_range) in
    let to = c.in_ok-end.ensures.every it.to it.other (rw from.1 it.split_end) in
    rw c.from_residual-in_err-end-2.ensures (c.in_err-end-2.ensures.every it.end_ (rw to.0 it.end_number))

pub returns-in_err-count-clause-every : goal.returns-in_err-count-clause-every
returns-in_err-count-clause-every c command is =
    let it = replace_rest command _ is in
    let same = c.in_ok-path.ensures.every it.path (it.from ++ blank ∷ (it.to ++ blank ∷ it.other)) it.split in
    let from = c.in_ok-start.ensures.every it.from (it.to ++ blank ∷ it.other) (rw same.1 it.split_range) in
    let to = c.in_ok-end.ensures.every it.to it.other (rw from.1 it.split_end) in
    rw c.from_residual-in_err-count.ensures (c.in_err-count.ensures.every it.count (rw to.1 it.count_number))

pub returns-in_err-path-2-clause-every : goal.returns-in_err-path-2-clause-every
returns-in_err-path-2-clause-every c command is =
    let it = replace_rest command _ is in
    let same = c.in_ok-path.ensures.every it.path (it.from ++ blank ∷ (it.to ++ blank ∷ it.other)) it.split in
    rw c.from_residual-in_err-path-2.ensures (c.in_err-path-2.ensures.every (rw same.0 it.a_path))
