use Rattle.std.proofs.Common.{arith, ◌≡◌}
use Rattle.std.proofs.lemmas.Grind.{common_steps}
use Rattle.typst_base.specs.KindNumber.{number_of}
use Rattle.typst_script.proofs.KindTable.{number_of_read}
use Rattle.typst_script.proofs.words.kind.Goals as goal

pub returns-else-is_error-clause-reads : goal.returns-else-is_error-clause-reads
returns-else-is_error-clause-reads c =
    let number : number_of c.in_ok-kind.kind ≡ c.in_ok-raw.raw = number_of_read _ _ _ c.from_u8.ensures.of_its_number c.from_u8.ensures.none c.in_ok-kind.was in
    grind (arith, common_steps, number)
