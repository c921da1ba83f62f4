-- What a unit may be written with.
use Rattle.std.proofs.Common.{◌≡◌, ℕ, ◌<◌, true, arith}
use Rattle.std.proofs.lemmas.Bool.Decides.{nat_tests}
use Rattle.typst_atoms.specs.Numerics.{is_unit_byte}

-- it is ASCII
pub unit_byte_small : (b : ℕ) → is_unit_byte b ≡ true → b < 128
unit_byte_small b h = grind (arith, nat_tests)
