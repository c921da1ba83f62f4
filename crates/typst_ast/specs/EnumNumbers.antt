-- The number of an item in a numbered list.
use Rattle.std.specs.Prelude.{ℕ, ◌<◌, ◌^◌, ◌==◌, List, [], ◌∷◌, Option, Some, None, ◌≡◌, ◌⊎◌}
use Rattle.std.specs.Str.Parse.{IsNumeral, digits_value, without_leading_plus}
use Rattle.typst_atoms.specs.Trims.{without_trailing}
use Rattle.typst_node.specs.Text.{own_text}
use Rattle.typst_node.specs.Tree.{Tree}

-- the text of a marker without all `.`, byte 46, at its end and without one `+` at its beginning
abbrev pub marker_digits : List ℕ → List ℕ
marker_digits bs = without_leading_plus (without_trailing (λ b. b == 46) bs)

-- that text is at least one decimal digit, whose value a `u64` holds
abbrev pub HasNumber : List ℕ → Type 0
HasNumber bs = IsNumeral 10 (marker_digits bs) × (digits_value 10 (marker_digits bs) < 2 ^ 64)

-- the number of the first of these markers whose text has one
abbrev pub IsFirstNumber : List Tree → Option ℕ → Type 0
IsFirstNumber [] number = number ≡ None
IsFirstNumber (marker ∷ markers) number =
    (HasNumber (own_text marker.label) × (number ≡ Some (digits_value 10 (marker_digits (own_text marker.label)))))
    ⊎ (¬ (HasNumber (own_text marker.label)) × IsFirstNumber markers number)
