use Rattle.std.proofs.Common.{◌∷◌, []}
use Rattle.typst_script.specs.Word.{IsNumber}
use Rattle.typst_script.proofs.Indices.{single_index, first_index, joined_indices, value_of}
use Rattle.typst_script.proofs.path.+are_indices.Goals as goal

pub returns-then-is_some-clause-reads : goal.returns-then-is_some-clause-reads
returns-then-is_some-clause-reads t c h =
    let first = value_of (IsNumber c.in-Some.first.now) c.number.result c.number.ensures.reads (rw c.is_some.ensures at c.if-is_some.true) in
    let others = c.are_indices.ensures.reads h in
    (first.0 ∷ others.0, joined_indices others.0 _ _ _ first.0 c.in-Some.ensures.reads first.1 others.1)

pub returns-then-is_some-clause-every : goal.returns-then-is_some-clause-every
returns-then-is_some-clause-every t c path h =
    let it = first_index path _ _ _ c.in-Some.ensures.reads c.in-Some.ensures.every h in
    c.are_indices.ensures.every it.1 it.4

pub returns-else-is_some-clause-every : goal.returns-else-is_some-clause-every
returns-else-is_some-clause-every t c path h =
    let it = first_index path _ _ _ c.in-Some.ensures.reads c.in-Some.ensures.every h in
    rw c.is_some.ensures (c.number.ensures.every it.0 it.3)

pub returns-in-None-clause-reads : goal.returns-in-None-clause-reads
returns-in-None-clause-reads t c h =
    let it = value_of (IsNumber c.args.word.now) c.number-in-None.result c.number-in-None.ensures.reads (rw c.is_some-in-None.ensures at h) in
    (it.0 ∷ [], it.1)

pub returns-in-None-clause-every : goal.returns-in-None-clause-every
returns-in-None-clause-every t c path h =
    let it = single_index path _ c.in-None.ensures.every h in
    rw c.is_some-in-None.ensures (c.number-in-None.ensures.every it.0 it.2)
