-- A blank or a line feed before a solid byte is all white space before a token.
use Rattle.std.proofs.Common.{◌≡◌, ℕ, ◌<◌, ◌≤◌, Bool, true, false, List, [], ◌∷◌, length, take, refl, sym, ap, subst, ◌∙◌, arith}
use Rattle.std.specs.Prelude.{◌||◌, ◌==◌, slice_index, if◌then◌else◌}
use Rattle.std.specs.Char.{is_ascii_graphic, is_whitespace}
use Rattle.typst_lexer.specs.declared.mode.Mode.{Mode}
use Rattle.typst_lexer.specs.declared.mode.Mode.TheVariants as modes
use Rattle.typst_lexer.specs.declared.place.Behind.{Behind}
use Rattle.typst_lexer.specs.declared.place.Behind.TheVariants.{Other}
use Rattle.typst_lexer.specs.declared.place.Place.TheVariants as place
use Rattle.typst_lexer.specs.declared.token.TokenKind.TheVariants as kinds
use Rattle.typst_lexer.specs.Classes.{begins_char, is_blank}
use Rattle.typst_lexer.specs.LoneBlank.{IsLone}
use Rattle.typst_lexer.specs.Quick.{IsQuick}
use Rattle.typst_lexer.specs.Spaces.{is_markup}
use Rattle.typst_lexer.specs.White.{begins_white, is_solid}
use Rattle.typst_lexer.proofs.Ascii.{begins_is, both}
use Rattle.typst_lexer.proofs.QuickTokens.{before_byte, blank_found, graphic_ends, line_found, token}
use Rattle.typst_lexer.proofs.WhiteNext.{solid_is, white_is}
use Rattle.typst_lexer.proofs.WhiteRuns.{enters_white}

-- a byte that is white space in each mode
module _ (b c : ℕ) (rest : List ℕ) (solid : is_solid c ≡ true) (low : b < 128) (dot : (b == 46) ≡ false) (blank : is_blank b ≡ true) (white : is_whitespace b ≡ true) where
  graphic : is_ascii_graphic c ≡ true
  graphic = (both (is_ascii_graphic c) _ solid).0

  begins : (m : Mode) (k : Behind) → begins_white m k (b ∷ c ∷ rest) ≡ true
  begins m k = sym (white_is m k (b ∷ c ∷ rest)) ∙ first_or _ _ _ _ (space (is_markup m))
    where
      space : (v : Bool) → (if v then begins_char is_blank (b ∷ take 9 (c ∷ rest)) else begins_char is_whitespace (b ∷ take 9 (c ∷ rest))) ≡ true
      space true = begins_is b (take 9 (c ∷ rest)) low is_blank ∙ blank
      space false = begins_is b (take 9 (c ∷ rest)) low is_whitespace ∙ white

      first_or : (u v w x : Bool) → u ≡ true → (u || v || w || x) ≡ true
      first_or true true true x e = refl
      first_or true true false x e = refl
      first_or true false true x e = refl
      first_or true false false x e = refl
      first_or false v w x e = cc

  other : (m : Mode) (k : Behind) → is_markup m ≡ false → IsQuick m k (b ∷ c ∷ rest) (record { kind = kinds.Space; len = 1 })
  other m k code =
      token m k place.Blank b (c ∷ rest) 0 low dot
      (enters_white m k (b ∷ take 9 (c ∷ rest)) code (begins_is b (take 9 (c ∷ rest)) low is_whitespace ∙ white))
      (omega arith) (omega arith) (before_byte place.Blank c rest (graphic_ends place.Blank c graphic refl))

  quick : (m : Mode) (k : Behind) → IsQuick modes.Markup k (b ∷ c ∷ rest) (record { kind = kinds.Space; len = 1 })
      → IsQuick m k (b ∷ c ∷ rest) (record { kind = kinds.Space; len = 1 })
  quick modes.Markup k is = is
  quick modes.Math k is = other modes.Math k refl
  quick modes.Argument k is = other modes.Argument k refl
  quick modes.Code k is = other modes.Code k refl
  quick modes.Operator k is = other modes.Operator k refl

  ends : (m : Mode) → begins_white m Other (c ∷ rest) ≡ false
  ends m = solid_is m Other (c ∷ rest) solid

at_blank : (c : ℕ) (rest : List ℕ) → is_solid c ≡ true → IsLone (32 ∷ c ∷ rest)
at_blank c rest solid m k = (
  begins 32 c rest solid (omega arith) refl refl refl m k,
  sym (quick 32 c rest solid (omega arith) refl refl refl m k (blank_found k 32 c refl (graphic 32 c rest solid (omega arith) refl refl refl) rest) (omega arith)),
  ends 32 c rest solid (omega arith) refl refl refl m,
)

at_line : (c : ℕ) (rest : List ℕ) → is_solid c ≡ true → IsLone (10 ∷ c ∷ rest)
at_line c rest solid m k = (
  begins 10 c rest solid (omega arith) refl refl refl m k,
  sym (quick 10 c rest solid (omega arith) refl refl refl m k (line_found k 10 c refl (graphic 10 c rest solid (omega arith) refl refl refl) rest) (omega arith)),
  ends 10 c rest solid (omega arith) refl refl refl m,
)

pub blank_is : (text : List ℕ) → 2 ≤ length text → slice_index text 0 ≡ 32 → is_solid (slice_index text 1) ≡ true → IsLone text
blank_is [] two is solid = absurd (omega (arith, two))
blank_is (b ∷ []) two is solid = absurd (omega (arith, two))
blank_is (b ∷ c ∷ rest) two is solid = subst (λ n. IsLone (n ∷ c ∷ rest)) (sym is) (at_blank c rest solid)

pub line_is : (text : List ℕ) → 2 ≤ length text → slice_index text 0 ≡ 10 → is_solid (slice_index text 1) ≡ true → IsLone text
line_is [] two is solid = absurd (omega (arith, two))
line_is (b ∷ []) two is solid = absurd (omega (arith, two))
line_is (b ∷ c ∷ rest) two is solid = subst (λ n. IsLone (n ∷ c ∷ rest)) (sym is) (at_line c rest solid)

pub byte_is : (text : List ℕ) (n : ℕ) → 2 ≤ length text → slice_index text 0 ≡ n → take 1 text ≡ n ∷ []
byte_is [] n two is = absurd (omega (arith, two))
byte_is (b ∷ bs) n two is = ap (λ (c : ℕ). c ∷ []) is
