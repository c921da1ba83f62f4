-- What numbers of code are, by their texts.
use Rattle.std.specs.Prelude.{ℕ, ◌^◌, ◌==◌, ◌||◌, not, nat_lt, Bool, List, length, drop, codes, if◌then◌else◌}
use Rattle.std.specs.Char.{is_ascii_digit, is_ascii_alphanumeric, is_digit}
use Rattle.std.specs.List.{take_while}
use Rattle.std.specs.Str.Parse.{digits_value}
use Rattle.typst_lexer.specs.declared.token.TokenKind.{TokenKind}
use Rattle.typst_lexer.specs.declared.token.TokenKind.TheVariants as kinds
use Rattle.typst_lexer.specs.Characters.{begins, begins_with}

-- the digits of a base with which a text begins
abbrev pub digits_of : ℕ → List ℕ → List ℕ
digits_of base text = take_while (λ b. is_digit b base) text

-- the kind of a whole number in base ten: a float, if it is past the largest whole number
abbrev pub whole_kind : List ℕ → TokenKind
whole_kind text = if nat_lt (digits_value 10 (digits_of 10 text)) (2 ^ 63) then kinds.Int else kinds.Float

-- what comes after those digits
abbrev pub after_digits : ℕ → List ℕ → List ℕ
after_digits base text = drop (length (digits_of base text)) text

-- The kind of what comes after `0b`, `0o` or `0x`, given whether wrong digits follow those of the base. It is no number of
-- the base if it begins with no digit of it, if wrong digits follow, or if it is past the largest whole number. Anything
-- else after the digits is a suffix, which such a number can't have.
abbrev pub kind_in_base : ℕ → Bool → TokenKind → TokenKind → List ℕ → TokenKind
kind_in_base base wrong invalid suffixed text =
    if (length (digits_of base text) == 0) || wrong || not (nat_lt (digits_value base (digits_of base text)) (2 ^ 63)) then invalid
    else (if length (digits_of base text) == length text then kinds.Int else suffixed)

-- the kind of a number that begins with `0b`, `0o` or `0x`
abbrev pub based_kind : List ℕ → TokenKind
based_kind text =
    if begins_with (codes "0b") text
    then kind_in_base 2 (begins is_ascii_digit (after_digits 2 (drop 2 text))) kinds.InvalidBinary kinds.SuffixedBinary (drop 2 text)
    else (if begins_with (codes "0o") text
    then kind_in_base 8 (begins is_ascii_digit (after_digits 8 (drop 2 text))) kinds.InvalidOctal kinds.SuffixedOctal (drop 2 text)
    else kind_in_base 16 (begins is_ascii_alphanumeric (after_digits 16 (drop 2 text))) kinds.InvalidHexadecimal kinds.SuffixedHexadecimal (drop 2 text))
