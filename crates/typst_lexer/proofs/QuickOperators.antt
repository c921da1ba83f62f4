-- An operator before a blank that is quickly found, where only an operator may come, is the one that the machine finds.
use Rattle.std.proofs.Common.{◌≡◌, ℕ, ◌<◌, ◌≤◌, Bool, true, false, List, [], ◌∷◌, length, take, refl, sym, ap, subst, ◌∙◌, arith}
use Rattle.std.specs.Prelude.{◌||◌, ◌==◌, slice_index, Option, Some, None}
use Rattle.std.specs.Char.{is_ascii_digit, is_whitespace}
use Rattle.std.proofs.lemmas.Bool.Decides.{nat_tests}
use Rattle.ucd_table.specs.Rows.{in_ranges}
use Rattle.ucd_derived.specs.Binary.{is_xid_continue, is_xid_start}
use Rattle.ucd_derived.specs.XidContinueRanges.{xid_continue_ranges}
use Rattle.ucd_derived.specs.XidStartRanges.{xid_start_ranges}
use Rattle.typst_lexer.specs.declared.mode.Mode.TheVariants as modes
use Rattle.typst_lexer.specs.declared.place.Behind.{Behind}
use Rattle.typst_lexer.specs.declared.place.Place.{Place}
use Rattle.typst_lexer.specs.declared.place.Place.TheVariants as place
use Rattle.typst_lexer.specs.declared.token.TokenKind.{TokenKind}
use Rattle.typst_lexer.specs.declared.token.TokenKind.TheVariants as kinds
use Rattle.typst_lexer.specs.Classes.{begins_char, is_name_part, is_name_start}
use Rattle.typst_lexer.specs.Code.{enter_operation, enter_operator, enter_operator_sign, is_fraction, is_minus}
use Rattle.typst_lexer.specs.Quick.{IsQuick}
use Rattle.typst_lexer.specs.Shared.{enter_comment}
use Rattle.typst_lexer.proofs.Ascii.{begins_is, has_not, skip}
use Rattle.typst_lexer.proofs.QuickTokens.{and_left, before_byte, sign_found}
use Rattle.typst_lexer.proofs.Steps.{and_false}

-- one of `=+-*/<>`
abbrev is_sign : ℕ → Bool
is_sign c = (c == 61) || (c == 43) || (c == 45) || (c == 42) || (c == 47) || (c == 60) || (c == 62)

-- The byte before a blank begins no comment, and is this operator, if it begins no minus sign of mathematics.
abbrev IsOne : ℕ → TokenKind → Type 0
IsOne n kind =
    (cs : List ℕ) → begins_char is_minus (n ∷ 32 ∷ cs) ≡ false
    → (enter_comment (n ∷ 32 ∷ cs) ≡ None) × (enter_operator_sign kinds.Other (n ∷ 32 ∷ cs) ≡ place.Rest kind 0)

no_part : (cs : List ℕ) → begins_char is_name_part (32 ∷ cs) ≡ false
unfolding in_ranges xid_continue_ranges is_xid_continue
no_part cs = begins_is 32 cs (omega arith) is_name_part

no_start : (n : ℕ) (cs : List ℕ) → n < 128 → is_sign n ≡ true → begins_char is_name_start (n ∷ cs) ≡ false
unfolding in_ranges xid_start_ranges is_xid_start
no_start n cs low sign = begins_is n cs low is_name_start ∙ has_not is_sign is_name_start n low sign refl

sign_low : (n : ℕ) → is_sign n ≡ true → n < 128
sign_low n h = grind (arith, nat_tests)

either : (u v : Bool) → u ≡ false → v ≡ false → (u || v) ≡ false
either true v e f = cc
either false v e f = f

enters : (k : Behind) (n : ℕ) (kind : TokenKind) (cs : List ℕ) → n < 128 → is_sign n ≡ true → IsOne n kind → enter_operator k (n ∷ 32 ∷ cs) ≡ place.Rest kind 0
enters k n kind cs low sign one =
    let w : List ℕ = n ∷ 32 ∷ cs in
    let is = one cs (begins_is n (32 ∷ cs) low is_minus ∙ has_not is_sign is_minus n low sign refl) in
    skip _ _ _ (begins_is n (32 ∷ cs) low is_whitespace ∙ has_not is_sign is_whitespace n low sign refl)
    ∙ ap (λ (o : Option Place). elim o as (λ _. Place) [ None ↦ enter_operation k w | Some p ↦ p ]) is.0
    ∙ skip _ _ _ (either _ _ (either _ _ (and_false _ _ (no_part cs)) (has_not is_sign is_ascii_digit n low sign refl)) (has_not is_sign (λ c. is_fraction (c ∷ 32 ∷ cs)) n low sign refl))
    ∙ skip _ _ _ (no_start n (32 ∷ cs) low sign) ∙ is.1

-- The byte before a blank is a token by itself where only an operator may come.
abbrev pub IsOperator : ℕ → TokenKind → Type 0
IsOperator b kind = (k : Behind) (rest : List ℕ) → IsQuick modes.Operator k (b ∷ 32 ∷ rest) (record { kind = kind; len = 1 })

operator_found : (b n : ℕ) (kind : TokenKind) → b ≡ n → is_sign n ≡ true → IsOne n kind → IsOperator b kind
operator_found b n kind is sign one k rest =
    let low = sign_low n sign in
    subst (λ n. IsQuick modes.Operator k (n ∷ 32 ∷ rest) (record { kind = kind; len = 1 })) (sym is)
    (sign_found modes.Operator k (place.Rest kind 0) n (32 ∷ rest) low (has_not is_sign (λ c. c == 46) n low sign refl) (enters k n kind (take 8 rest) low sign one)
    (before_byte (place.Rest kind 0) 32 rest refl))

pub plus_found : (b : ℕ) → b ≡ 43 → IsOperator b kinds.Plus
plus_found b is = operator_found b 43 kinds.Plus is refl (λ cs minus. (refl, skip _ _ _ (and_left _ _ minus)))

pub minus_found : (b : ℕ) → b ≡ 45 → IsOperator b kinds.Minus
minus_found b is = operator_found b 45 kinds.Minus is refl (λ cs minus. (refl, skip _ _ _ (and_left _ _ minus)))

pub star_found : (b : ℕ) → b ≡ 42 → IsOperator b kinds.Star
star_found b is = operator_found b 42 kinds.Star is refl (λ cs minus. (refl, skip _ _ _ (and_left _ _ minus) ∙ skip _ _ _ minus))

pub slash_found : (b : ℕ) → b ≡ 47 → IsOperator b kinds.Slash
slash_found b is = operator_found b 47 kinds.Slash is refl (λ cs minus. (refl, skip _ _ _ (and_left _ _ minus) ∙ skip _ _ _ minus))

pub equal_found : (b : ℕ) → b ≡ 61 → IsOperator b kinds.Eq
equal_found b is = operator_found b 61 kinds.Eq is refl (λ cs minus. (refl, skip _ _ _ (and_left _ _ minus) ∙ skip _ _ _ minus))

pub less_found : (b : ℕ) → b ≡ 60 → IsOperator b kinds.Lt
less_found b is = operator_found b 60 kinds.Lt is refl (λ cs minus. (refl, skip _ _ _ (and_left _ _ minus) ∙ skip _ _ _ minus))

pub greater_found : (b : ℕ) → b ≡ 62 → IsOperator b kinds.Gt
greater_found b is = operator_found b 62 kinds.Gt is refl (λ cs minus. (refl, skip _ _ _ (and_left _ _ minus) ∙ skip _ _ _ minus))

-- what is quickly found of the first two bytes
pub operators_found : (k : Behind) (bytes : List ℕ) (kind : TokenKind) → 2 ≤ length bytes → slice_index bytes 1 ≡ 32 → IsOperator (slice_index bytes 0) kind
    → IsQuick modes.Operator k bytes (record { kind = kind; len = 1 })
operators_found k [] kind two blank is = absurd (omega (arith, two))
operators_found k (b ∷ []) kind two blank is = absurd (omega (arith, two))
operators_found k (b ∷ c ∷ cs) kind two blank is = subst (λ c. IsQuick modes.Operator k (b ∷ c ∷ cs) (record { kind = kind; len = 1 })) (sym blank) (is k cs)
