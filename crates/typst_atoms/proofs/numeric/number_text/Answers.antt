use Rattle.std.proofs.Common.{rules}
use Rattle.std.proofs.lemmas.List.Sorted.{answers_always}
use Rattle.typst_atoms.proofs.Trims.{trimmed_end_by_function}
use Rattle.typst_atoms.proofs.Units.{unit_byte_small}
use Rattle.typst_atoms.proofs.numeric.number_text.Goals as goal
use Rattle.typst_atoms.specs.Numerics.{is_unit_byte}

pub returns : goal.returns
returns c =
    trimmed_end_by_function _ is_unit_byte unit_byte_small (answers_always _ _ _ (λ f a r g k. search rules)) _ _ c.trim_end_matches.ensures.matches
