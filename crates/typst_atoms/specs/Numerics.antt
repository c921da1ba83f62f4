-- A number and its unit.
use Rattle.std.specs.Prelude.{ℕ, Bool, ◌||◌, ◌==◌, List, codes, ◌≡◌, ◌≢◌}
use Rattle.std.specs.Char.{is_ascii_lowercase}
use Rattle.typst_atoms.specs.Trims.{without_trailing, ending}
use Rattle.typst_atoms.specs.declared.numeric.Unit.{Unit}
use Rattle.typst_atoms.specs.declared.numeric.Unit.TheVariants.{Pt, Mm, Cm, In, Rad, Deg, Em, Fr, Percent}

-- `a` to `z`, and `%`, which is byte 37
abbrev pub is_unit_byte : ℕ → Bool
is_unit_byte b = is_ascii_lowercase b || b == 37

-- the unit's text is the longest ending of such bytes
abbrev pub unit_text : List ℕ → List ℕ
unit_text bs = ending is_unit_byte bs

-- the number's text is what comes before the unit's text
abbrev pub number_text : List ℕ → List ℕ
number_text bs = without_trailing is_unit_byte bs

-- the unit with this text; it is `Percent` for `%` and for a text of no other unit
abbrev pub IsUnitOf : List ℕ → Unit → Type 0
IsUnitOf written Pt = written ≡ codes "pt"
IsUnitOf written Mm = written ≡ codes "mm"
IsUnitOf written Cm = written ≡ codes "cm"
IsUnitOf written In = written ≡ codes "in"
IsUnitOf written Rad = written ≡ codes "rad"
IsUnitOf written Deg = written ≡ codes "deg"
IsUnitOf written Em = written ≡ codes "em"
IsUnitOf written Fr = written ≡ codes "fr"
IsUnitOf written Percent =
    (written ≢ codes "pt") × (written ≢ codes "mm") × (written ≢ codes "cm") × (written ≢ codes "in")
    × (written ≢ codes "rad") × (written ≢ codes "deg") × (written ≢ codes "em") × (written ≢ codes "fr")
