-- Tokens that their first byte decides, without a look at the rules.
use Rattle.std.proofs.Common.{◌≡◌, ℕ, ◌<◌, Bool, true, false, List, [], ◌∷◌, refl, ap, ◌∙◌, arith}
use Rattle.std.specs.Prelude.{◌&&◌, ◌||◌, not, nat_lt, codes, Option, Some, None, if◌then◌else◌}
use Rattle.std.specs.Char.{is_ascii_alphanumeric, is_ascii_digit, is_whitespace}
use Rattle.std.proofs.lemmas.Bool.Decides.{nat_tests}
use Rattle.ucd_table.specs.Rows.{in_ranges}
use Rattle.ucd_derived.specs.Binary.{is_xid_start}
use Rattle.ucd_derived.specs.XidStartRanges.{xid_start_ranges}
use Rattle.typst_lexer.specs.declared.place.Behind.{Behind}
use Rattle.typst_lexer.specs.declared.place.Place.{Place}
use Rattle.typst_lexer.specs.declared.place.Place.TheVariants as place
use Rattle.typst_lexer.specs.declared.token.TokenKind.{TokenKind}
use Rattle.typst_lexer.specs.declared.token.TokenKind.TheVariants as kinds
use Rattle.typst_lexer.specs.Bytes.{is_alone, is_bracket}
use Rattle.typst_lexer.specs.Characters.{begins, begins_with, is_name_start}
use Rattle.typst_lexer.specs.Classes as classes
use Rattle.typst_lexer.specs.Classes.{begins_char, is_blank, is_newline}
use Rattle.typst_lexer.specs.Code.{enter_bracket, enter_code, enter_expression, enter_one, enter_operation, enter_operator, enter_operator_sign, enter_word, is_based, is_field, is_fraction, is_minus}
use Rattle.typst_lexer.specs.Letters.{is_letter}
use Rattle.typst_lexer.specs.Markup.{enter_content, enter_markup, is_link_start, is_ref_start, is_start, shorthand_len}
use Rattle.typst_lexer.specs.Math.{enter_first, enter_math_sign, enter_shorthand, is_root, is_shorthand_of_four, is_shorthand_of_one, is_shorthand_of_three, is_shorthand_of_two}
use Rattle.typst_lexer.specs.Shared.{enter_comment, is_label_start}
use Rattle.typst_lexer.proofs.Ascii.{all_below, begins_is, has, has_not, pick, skip}

-- the first byte of a name or a bracket
abbrev is_early : ℕ → Bool
is_early b = is_name_start b || is_bracket b

early_low : (b : ℕ) → is_early b ≡ true → b < 128
early_low b h = grind (arith, nat_tests)

abbrev or_place : Option Place → Place → Place
or_place o x = elim o as (λ _. Place) [ None ↦ x | Some p ↦ p ]

module _ (b : ℕ) (bs : List ℕ) (early : is_early b ≡ true) where
  no : (p : ℕ → Bool) → all_below (λ c. not (is_early c) || not (p c)) 128 ≡ true → p b ≡ false
  no p ok = has_not is_early p b (early_low b early) early ok

  no_space : begins_char is_whitespace (b ∷ bs) ≡ false
  no_space = begins_is b bs (early_low b early) is_whitespace ∙ no is_whitespace refl

  no_comment : enter_comment (b ∷ bs) ≡ None
  no_comment =
      skip _ _ _ (no (λ c. begins_with (codes "//") (c ∷ bs)) refl)
      ∙ skip _ _ _ (no (λ c. begins_with (codes "/*") (c ∷ bs)) refl)
      ∙ skip _ _ _ (no (λ c. begins_with (codes "*/") (c ∷ bs)) refl)

  code_early : (k : Behind) → enter_code k (b ∷ bs)
      ≡ (if begins_char classes.is_name_start (b ∷ bs) then (if is_field k then place.FieldName else place.Name) else enter_operator_sign kinds.InvalidCharacter (b ∷ bs))
  code_early k =
      skip _ _ _ no_space
      ∙ ap (λ (o : Option Place). or_place o (enter_expression k (b ∷ bs))) no_comment
      ∙ skip _ _ _ (no (λ c. begins_with (codes "`") (c ∷ bs)) refl)
      ∙ skip _ _ _ (no (λ c. is_label_start (c ∷ bs)) refl)
      ∙ skip _ _ _ (no (λ c. is_based (c ∷ bs)) refl)
      ∙ skip _ _ _ (no is_ascii_digit refl)
      ∙ skip _ _ _ (no (λ c. is_fraction (c ∷ bs)) refl)
      ∙ skip _ _ _ (no (λ c. begins_with (codes "\"") (c ∷ bs)) refl)

  operator_early : (k : Behind) → enter_operator k (b ∷ bs)
      ≡ (if begins_char classes.is_name_start (b ∷ bs) then (if is_field k then place.Rest kinds.Other 0 else enter_word (b ∷ bs)) else enter_operator_sign kinds.Other (b ∷ bs))
  operator_early k =
      skip _ _ _ no_space
      ∙ ap (λ (o : Option Place). or_place o (enter_operation k (b ∷ bs))) no_comment
      ∙ skip _ _ _ (no (λ c. is_label_start (c ∷ bs) || is_ascii_digit c || is_fraction (c ∷ bs)) refl)

early_name : (b : ℕ) → is_name_start b ≡ true → is_early b ≡ true
early_name b h = or_left (is_name_start b) (is_bracket b) h
  where
    or_left : (u v : Bool) → u ≡ true → (u || v) ≡ true
    or_left true v e = refl
    or_left false v e = cc

name_starts : (b : ℕ) (bs : List ℕ) → is_name_start b ≡ true → begins_char classes.is_name_start (b ∷ bs) ≡ true
unfolding in_ranges xid_start_ranges is_xid_start
name_starts b bs h =
    let low = early_low b (early_name b h) in
    begins_is b bs low classes.is_name_start ∙ has is_name_start classes.is_name_start b low h refl

-- a name of code, and a name where only an operator may come
pub code_name : (k : Behind) (w : List ℕ) → begins is_name_start w ≡ true → enter_code k w ≡ (if is_field k then place.FieldName else place.Name)
code_name k [] h = cc
code_name k (b ∷ bs) h = code_early b bs (early_name b h) k ∙ pick _ _ _ (name_starts b bs h)

pub operator_name : (k : Behind) (w : List ℕ) → begins is_name_start w ≡ true → enter_operator k w ≡ (if is_field k then place.Rest kinds.Other 0 else enter_word w)
operator_name k [] h = cc
operator_name k (b ∷ bs) h = operator_early b bs (early_name b h) k ∙ pick _ _ _ (name_starts b bs h)

early_bracket : (b : ℕ) → is_bracket b ≡ true → is_early b ≡ true
early_bracket b h = or_right (is_name_start b) (is_bracket b) h
  where
    or_right : (u v : Bool) → v ≡ true → (u || v) ≡ true
    or_right true v e = refl
    or_right false v e = e

either : (u v : Bool) → u ≡ false → v ≡ false → (u || v) ≡ false
either true v e f = cc
either false v e f = f

and_left : (u v : Bool) → u ≡ false → (u && v) ≡ false
and_left true v e = cc
and_left false v e = refl

module _ (b : ℕ) (bs : List ℕ) (bracket : is_bracket b ≡ true) where
  not_one : (p : ℕ → Bool) → all_below (λ c. not (is_bracket c) || not (p c)) 128 ≡ true → p b ≡ false
  not_one p ok = has_not is_bracket p b (early_low b (early_bracket b bracket)) bracket ok

  no_minus : begins_char is_minus (b ∷ bs) ≡ false
  no_minus = begins_is b bs (early_low b (early_bracket b bracket)) is_minus ∙ not_one is_minus refl

  bracket_one : (kind : TokenKind) → enter_one kind (b ∷ bs) ≡ enter_bracket kind (b ∷ bs)
  bracket_one kind =
      skip _ _ _ (not_one (λ c. begins_with (codes ".") (c ∷ bs)) refl)
      ∙ skip _ _ _ (not_one (λ c. begins_with (codes "+") (c ∷ bs)) refl)
      ∙ skip _ _ _ (either _ _ (not_one (λ c. begins_with (codes "-") (c ∷ bs)) refl) no_minus)
      ∙ skip _ _ _ (not_one (λ c. begins_with (codes "*") (c ∷ bs)) refl)
      ∙ skip _ _ _ (not_one (λ c. begins_with (codes "/") (c ∷ bs)) refl)
      ∙ skip _ _ _ (not_one (λ c. begins_with (codes "=") (c ∷ bs)) refl)
      ∙ skip _ _ _ (not_one (λ c. begins_with (codes "<") (c ∷ bs)) refl)
      ∙ skip _ _ _ (not_one (λ c. begins_with (codes ">") (c ∷ bs)) refl)

  bracket_sign : (kind : TokenKind) → enter_operator_sign kind (b ∷ bs) ≡ enter_bracket kind (b ∷ bs)
  bracket_sign kind =
      skip _ _ _ (not_one (λ c. begins_with (codes "==") (c ∷ bs)) refl)
      ∙ skip _ _ _ (not_one (λ c. begins_with (codes "!=") (c ∷ bs)) refl)
      ∙ skip _ _ _ (not_one (λ c. begins_with (codes "<=") (c ∷ bs)) refl)
      ∙ skip _ _ _ (not_one (λ c. begins_with (codes ">=") (c ∷ bs)) refl)
      ∙ skip _ _ _ (not_one (λ c. begins_with (codes "+=") (c ∷ bs)) refl)
      ∙ skip _ _ _ (either _ _ (not_one (λ c. begins_with (codes "-=") (c ∷ bs)) refl) (and_left _ _ no_minus))
      ∙ skip _ _ _ (not_one (λ c. begins_with (codes "*=") (c ∷ bs)) refl)
      ∙ skip _ _ _ (not_one (λ c. begins_with (codes "/=") (c ∷ bs)) refl)
      ∙ skip _ _ _ (not_one (λ c. begins_with (codes "..") (c ∷ bs)) refl)
      ∙ skip _ _ _ (not_one (λ c. begins_with (codes "=>") (c ∷ bs)) refl)
      ∙ bracket_one kind

  no_name : begins_char classes.is_name_start (b ∷ bs) ≡ false
  unfolding in_ranges xid_start_ranges is_xid_start
  no_name = begins_is b bs (early_low b (early_bracket b bracket)) classes.is_name_start ∙ not_one classes.is_name_start refl

-- a bracket of code, and one where only an operator may come
pub code_bracket : (k : Behind) (w : List ℕ) → begins is_bracket w ≡ true → enter_code k w ≡ enter_bracket kinds.InvalidCharacter w
code_bracket k [] h = cc
code_bracket k (b ∷ bs) h = code_early b bs (early_bracket b h) k ∙ skip _ _ _ (no_name b bs h) ∙ bracket_sign b bs h kinds.InvalidCharacter

pub operator_bracket : (k : Behind) (w : List ℕ) → begins is_bracket w ≡ true → enter_operator k w ≡ enter_bracket kinds.Other w
operator_bracket k [] h = cc
operator_bracket k (b ∷ bs) h = operator_early b bs (early_bracket b h) k ∙ skip _ _ _ (no_name b bs h) ∙ bracket_sign b bs h kinds.Other

alone_low : (b : ℕ) → is_alone b ≡ true → b < 128
alone_low b h = low (nat_lt b 128) _ refl h
  where
    low : (u v : Bool) → nat_lt b 128 ≡ u → (u && v) ≡ true → b < 128
    low true v e h = grind (arith, nat_tests)
    low false v e h = cc

-- no shorthand of math
pub alone : (w : List ℕ) → begins is_alone w ≡ true → enter_shorthand w ≡ enter_math_sign w
alone [] h = cc
alone (b ∷ bs) h =
    skip _ _ _ (no_first (λ c. is_shorthand_of_four (c ∷ bs)) refl)
    ∙ skip _ _ _ (no_first (λ c. is_shorthand_of_three (c ∷ bs)) refl)
    ∙ skip _ _ _ (no_first (λ c. is_shorthand_of_two (c ∷ bs)) refl)
    ∙ skip _ _ _ (no_first (λ c. begins_with (codes "[|") (c ∷ bs)) refl)
    ∙ skip _ _ _ (no_first (λ c. begins_with (codes "|]") (c ∷ bs)) refl)
    ∙ skip _ _ _ (no_first (λ c. is_shorthand_of_one (c ∷ bs)) refl)
  where
    no_first : (p : ℕ → Bool) → all_below (λ c. not (is_alone c) || not (p c)) 128 ≡ true → p b ≡ false
    no_first p ok = has_not is_alone p b (alone_low b h) h ok

pub alphanumeric_low : (b : ℕ) → is_ascii_alphanumeric b ≡ true → b < 128
alphanumeric_low b h = grind (arith, nat_tests)

-- a letter or a digit of math
pub math_char : (w : List ℕ) → begins is_ascii_alphanumeric w ≡ true → enter_math_sign w ≡ enter_first w
math_char [] h = cc
math_char (b ∷ bs) h =
    skip _ _ _ (no_sign (λ c. begins_with (codes ".") (c ∷ bs)) refl)
    ∙ skip _ _ _ (no_sign (λ c. begins_with (codes ",") (c ∷ bs)) refl)
    ∙ skip _ _ _ (no_sign (λ c. begins_with (codes ";") (c ∷ bs)) refl)
    ∙ skip _ _ _ (no_sign (λ c. begins_with (codes "(") (c ∷ bs)) refl)
    ∙ skip _ _ _ (no_sign (λ c. begins_with (codes ")") (c ∷ bs)) refl)
    ∙ skip _ _ _ (no_sign (λ c. begins_with (codes "#") (c ∷ bs)) refl)
    ∙ skip _ _ _ (no_sign (λ c. begins_with (codes "_") (c ∷ bs)) refl)
    ∙ skip _ _ _ (no_sign (λ c. begins_with (codes "$") (c ∷ bs)) refl)
    ∙ skip _ _ _ (no_sign (λ c. begins_with (codes "/") (c ∷ bs)) refl)
    ∙ skip _ _ _ (no_sign (λ c. begins_with (codes "^") (c ∷ bs)) refl)
    ∙ skip _ _ _ (no_sign (λ c. begins_with (codes "&") (c ∷ bs)) refl)
    ∙ skip _ _ _ (begins_is b bs low is_root ∙ no_sign is_root refl)
    ∙ skip _ _ _ (no_sign (λ c. begins_with (codes "!") (c ∷ bs)) refl)
  where
    low : b < 128
    low = alphanumeric_low b h

    no_sign : (p : ℕ → Bool) → all_below (λ c. not (is_ascii_alphanumeric c) || not (p c)) 128 ≡ true → p b ≡ false
    no_sign p ok = has_not is_ascii_alphanumeric p b low h ok

letter_low : (b : ℕ) → is_letter b ≡ true → b < 128
letter_low b h = grind (arith, nat_tests)

-- text that begins with a letter
pub markup_text : (k : Behind) (w : List ℕ) → begins is_letter w ≡ true → enter_markup k w ≡ place.Text
markup_text k [] h = cc
markup_text k (b ∷ bs) h =
    skip _ _ _ (and_left _ _ (begins_is b bs low is_newline ∙ no_text is_newline refl))
    ∙ skip _ _ _ (begins_is b bs low is_blank ∙ no_text is_blank refl)
    ∙ skip _ _ _ (and_right (is_start k) _ (no_text (λ c. begins_with (codes "#!") (c ∷ bs)) refl))
    ∙ ap (λ (o : Option Place). or_place o (enter_content k (b ∷ bs))) no_mark
    ∙ skip _ _ _ (no_text (λ c. begins_with (codes "`") (c ∷ bs)) refl)
    ∙ skip _ _ _ (no_text (λ c. begins_with (codes "\\") (c ∷ bs)) refl)
    ∙ skip _ _ _ (no_text (λ c. is_link_start (c ∷ bs)) refl)
    ∙ skip _ _ _ (no_text (λ c. is_label_start (c ∷ bs)) refl)
    ∙ skip _ _ _ (no_text (λ c. is_ref_start (c ∷ bs)) refl)
    ∙ skip _ _ _ (no_text (λ c. nat_lt 0 (shorthand_len (c ∷ bs))) refl)
    ∙ skip _ _ _ (and_left _ _ (no_text (λ c. begins_with (codes "*") (c ∷ bs)) refl))
    ∙ skip _ _ _ (and_left _ _ (no_text (λ c. begins_with (codes "_") (c ∷ bs)) refl))
    ∙ skip _ _ _ (no_text (λ c. begins_with (codes "#") (c ∷ bs)) refl)
    ∙ skip _ _ _ (no_text (λ c. begins_with (codes "[") (c ∷ bs)) refl)
    ∙ skip _ _ _ (no_text (λ c. begins_with (codes "]") (c ∷ bs)) refl)
    ∙ skip _ _ _ (no_text (λ c. begins_with (codes "'") (c ∷ bs) || begins_with (codes "\"") (c ∷ bs)) refl)
    ∙ skip _ _ _ (no_text (λ c. begins_with (codes "$") (c ∷ bs)) refl)
    ∙ skip _ _ _ (no_text (λ c. begins_with (codes ":") (c ∷ bs)) refl)
    ∙ skip _ _ _ (no_text (λ c. begins_with (codes "=") (c ∷ bs)) refl)
    ∙ skip _ _ _ (and_left _ _ (no_text (λ c. begins_with (codes "-") (c ∷ bs)) refl))
    ∙ skip _ _ _ (and_left _ _ (no_text (λ c. begins_with (codes "+") (c ∷ bs)) refl))
    ∙ skip _ _ _ (and_left _ _ (no_text (λ c. begins_with (codes "/") (c ∷ bs)) refl))
    ∙ skip _ _ _ (no_text is_ascii_digit refl)
  where
    low : b < 128
    low = letter_low b h

    no_text : (p : ℕ → Bool) → all_below (λ c. not (is_letter c) || not (p c)) 128 ≡ true → p b ≡ false
    no_text p ok = has_not is_letter p b low h ok

    no_mark : enter_comment (b ∷ bs) ≡ None
    no_mark =
        skip _ _ _ (no_text (λ c. begins_with (codes "//") (c ∷ bs)) refl)
        ∙ skip _ _ _ (no_text (λ c. begins_with (codes "/*") (c ∷ bs)) refl)
        ∙ skip _ _ _ (no_text (λ c. begins_with (codes "*/") (c ∷ bs)) refl)

    and_right : (u v : Bool) → v ≡ false → (u && v) ≡ false
    and_right true v e = e
    and_right false v e = refl
