use Rattle.typst_atoms.proofs.Trims.{trimmed_boundary}
use Rattle.typst_atoms.proofs.numeric.Numeric.get.Goals as goal
use Rattle.typst_atoms.specs.Numerics.{is_unit_byte}

pub range_from-requires : goal.range_from-requires
range_from-requires c =
    λ _. trimmed_boundary is_unit_byte _ _ c.number_text-number.ensures c.leaf_text-text.utf8 c.number_text-number.utf8
