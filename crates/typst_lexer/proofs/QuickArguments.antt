-- Where no name of an argument begins, the first token of an argument is that of math.
use Rattle.std.proofs.Common.{◌≡◌, ℕ, ◌+◌, ◌<◌, ◌≤◌, ◌≢◌, nat_lt, Bool, true, false, List, [], ◌∷◌, length, take, refl, sym, ap, ◌∙◌, arith}
use Rattle.std.specs.Prelude.{◌&&◌, ◌||◌, ◌==◌, not, codes, slice_index, Option, Some, None, if◌then◌else◌}
use Rattle.std.specs.Char.{is_whitespace}
use Rattle.ucd_table.specs.Rows as tables
use Rattle.ucd_derived.specs.Binary.{is_xid_continue, is_xid_start}
use Rattle.ucd_derived.specs.XidContinueRanges.{xid_continue_ranges}
use Rattle.ucd_derived.specs.XidStartRanges.{xid_start_ranges}
use Rattle.typst_lexer.specs.declared.head.FirstToken.{FirstToken}
use Rattle.typst_lexer.specs.declared.quick.Quick.{Quick}
use Rattle.typst_lexer.specs.declared.mode.Mode.TheVariants as modes
use Rattle.typst_lexer.specs.declared.place.Behind.{Behind}
use Rattle.typst_lexer.specs.declared.place.Place.{Place}
use Rattle.typst_lexer.specs.declared.place.Place.TheVariants as place
use Rattle.typst_lexer.specs.declared.head.Run.{Run}
use Rattle.typst_lexer.specs.Runs.{run}
use Rattle.typst_lexer.specs.declared.token.TokenKind.TheVariants as kinds
use Rattle.typst_lexer.specs.Arguments.{enter_argument, enter_name, enter_value}
use Rattle.typst_lexer.specs.Characters as characters
use Rattle.typst_lexer.specs.Characters.{begins, begins_with, goes_on, is_name}
use Rattle.typst_lexer.specs.Classes.{begins_char, is_name_part, is_name_start}
use Rattle.typst_lexer.specs.Machine.{accepts, kind_of, reading, stay}
use Rattle.typst_lexer.specs.Math.{enter_formula, enter_math, is_math_part, is_math_start}
use Rattle.typst_lexer.specs.Quick.{IsQuick}
use Rattle.typst_lexer.specs.Shared.{enter_comment}
use Rattle.typst_lexer.proofs.Ascii.{begins_is, both, first_is, has_not, pick, same, skip}
use Rattle.typst_lexer.proofs.QuickTokens.{and_left, low_from, low_to}
use Rattle.typst_lexer.proofs.QuickMath.{after_is, but, is_but, or_place, whole}

and_right : (u v : Bool) → v ≡ false → (u && v) ≡ false
and_right true v e = e
and_right false v e = refl

-- the first token, given what it is inside of after its first byte
abbrev token_from : Place → Behind → ℕ → List ℕ → FirstToken
token_from p k b bs =
    let r : Run = whole (run stay accepts 10 (reading p k (b ∷ take 9 bs)) bs) in
    record { kind = kind_of r.last.place (take r.len (b ∷ bs)); len = r.len; look = r.passed + 10; behind = r.last.behind }

-- a byte of ASCII, but none of a name, and no colon
abbrev is_outer : ℕ → Bool
is_outer b = nat_lt b 128 && not (is_name b || (b == 58))

outer_from : (b : ℕ) → b < 128 → is_name b ≡ false → not (b == 58) ≡ true → is_outer b ≡ true
outer_from b low name colon =
    ap (λ (v : Bool). v && not (is_name b || (b == 58))) (low_to b low) ∙ ap (λ (v : Bool). not (v || (b == 58))) name ∙ colon

-- a byte with which a name may begin, before one that is in no name and no colon
module _ (b c : ℕ) (cs : List ℕ) (low : b < 128) (outer : is_outer c ≡ true) where
  next_low : c < 128
  next_low = low_from c (both _ _ outer).0

  name_enters_formula : enter_name b (b ∷ c ∷ cs) ≡ enter_formula (b ∷ c ∷ cs)
  unfolding tables.in_ranges xid_continue_ranges is_xid_continue
  name_enters_formula =
      let rest = after_is b (c ∷ cs) low in
      skip _ _ _ (ap (λ (l : List ℕ). begins_with (codes ":") l && not (begins_with (codes ":=") l || begins_with (codes "::=") l)) rest
      ∙ and_left _ _ (has_not is_outer (λ c. begins_with (codes ":") (c ∷ cs)) c next_low outer refl))
      ∙ skip _ _ _ (and_right (begins_char is_math_start (b ∷ c ∷ cs)) _ (ap (begins_char is_math_part) rest ∙ begins_is c cs next_low is_math_part ∙ has_not is_outer is_math_part c next_low outer refl))
      ∙ skip _ _ _ (ap (begins_char is_name_part) rest ∙ begins_is c cs next_low is_name_part ∙ has_not is_outer is_name_part c next_low outer refl)

-- an argument that begins with no dot, and as a formula if its first byte may begin a name
argument_enters : (b c : ℕ) (cs : List ℕ) → b < 128 → b ≢ 46
    → (if characters.is_name_start b then enter_name b (b ∷ c ∷ cs) else enter_formula (b ∷ c ∷ cs)) ≡ enter_formula (b ∷ c ∷ cs) → enter_argument (b ∷ c ∷ cs) ≡ enter_math (b ∷ c ∷ cs)
unfolding tables.in_ranges xid_start_ranges is_xid_start
argument_enters b c cs low dot is =
    let w : List ℕ = b ∷ c ∷ cs in
    ap (λ (v : Bool). if begins_char is_whitespace w then place.Blank else (if v then place.Rest kinds.Dots 1 else or_place (enter_comment w) (enter_value w)))
    (and_left _ _ (has_not (is_but 46) (λ b. begins_with (codes "..") (b ∷ c ∷ cs)) b low (but 46 b dot) refl))
    ∙ ap (λ (p : Place). if begins_char is_whitespace w then place.Blank else or_place (enter_comment w) p)
    (ap (λ (o : Option ℕ). elim o as (λ _. Place) [ None ↦ enter_formula w | Some d ↦ if is_name_start d then enter_name d w else enter_formula w ]) (first_is b (c ∷ cs) low)
    ∙ ap (λ (v : Bool). if v then enter_name b w else enter_formula w) (same is_name_start characters.is_name_start b low refl)
    ∙ is)

-- What begins with these two bytes begins in an argument as it does in math.
abbrev IsMath : ℕ → ℕ → Type 0
IsMath b c = (rest : List ℕ) → enter_argument (b ∷ c ∷ rest) ≡ enter_math (b ∷ c ∷ rest)

pub nameless : (b c : ℕ) → b < 128 → b ≢ 46 → characters.is_name_start b ≡ false → IsMath b c
nameless b c low dot start rest = argument_enters b c rest low dot (skip _ _ _ start)

pub short_name : (b c : ℕ) → b < 128 → b ≢ 46 → characters.is_name_start b ≡ true → c < 128 → is_name c ≡ false → not (c == 58) ≡ true → IsMath b c
short_name b c low dot start next name colon rest = argument_enters b c rest low dot (pick _ _ _ start ∙ name_enters_formula b c rest low (outer_from c next name colon))

pub argument_found : (bytes : List ℕ) (quick : Quick) → 2 ≤ length bytes → IsMath (slice_index bytes 0) (slice_index bytes 1)
    → ((k : Behind) → IsQuick modes.Math k bytes quick) → (k : Behind) → IsQuick modes.Argument k bytes quick
argument_found [] quick two is of = absurd (omega (arith, two))
argument_found (b ∷ []) quick two is of = absurd (omega (arith, two))
argument_found (b ∷ c ∷ cs) quick two is of = λ k more. of k more ∙ ap (λ (p : Place). token_from p k b (c ∷ cs)) (sym (is (take 8 cs)))
