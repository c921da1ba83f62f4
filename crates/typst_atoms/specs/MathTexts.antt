-- Characters and numbers in math.
use Rattle.std.specs.Prelude.{ℕ, Bool, true, false, List, ◌≡◌}
use Rattle.std.specs.List.{slice_get}
use Rattle.std.specs.Option.{option_map_or}
use Rattle.std.specs.Str.{chars}
use Rattle.typst_atoms.specs.declared.math_text.MathTextKind.{MathTextKind}
use Rattle.typst_atoms.specs.declared.math_text.MathTextKind.TheVariants.{Grapheme, Number}
use Rattle.ucd_category.specs.GeneralCategory.{general_category}
use Rattle.ucd_category.specs.declared.GeneralCategory.{GeneralCategory}
use Rattle.ucd_category.specs.declared.GeneralCategory.TheVariants.{DecimalNumber, LetterNumber, OtherNumber}

-- the categories of numbers: Nd, Nl and No
abbrev pub is_number_category : GeneralCategory → Bool
is_number_category DecimalNumber = true
is_number_category LetterNumber = true
is_number_category OtherNumber = true
is_number_category _ = false

-- the character's general category is one of these
abbrev pub is_numeric : ℕ → Bool
is_numeric c = is_number_category (general_category c)

-- there is a first character, and it is a number
abbrev pub begins_numeric : List ℕ → Bool
begins_numeric bs = option_map_or is_numeric (slice_get (chars bs) 0) false

-- a number if the text begins with one, else a grapheme; in both cases it has the whole text
abbrev pub IsMathTextOf : List ℕ → MathTextKind → Type 0
IsMathTextOf bs (Number t) = (begins_numeric bs ≡ true) × (t.now ≡ bs)
IsMathTextOf bs (Grapheme t) = (begins_numeric bs ≡ false) × (t.now ≡ bs)
