-- Where a token goes on over a byte of ASCII, or ends before it, without a look at the rules.
use Rattle.std.proofs.Common.{◌≡◌, ℕ, ◌<◌, ◌⊎◌, inl, inr, nat_lt, Bool, true, false, List, [], ◌∷◌, take, refl, sym, ap, subst, ◌∙◌, arith}
use Rattle.std.specs.Prelude.{◌&&◌, ◌||◌, ◌==◌, not, codes, Option, Some, None, if◌then◌else◌}
use Rattle.std.specs.Char.{is_ascii_alphabetic, is_ascii_alphanumeric, is_ascii_digit, is_whitespace}
use Rattle.std.specs.Char.Unicode.Rows.{in_ranges}
use Rattle.std.specs.Char.Unicode.Alphabetic.{alphabetic_ranges, is_alphabetic}
use Rattle.std.specs.Char.Unicode.Numeric.{is_numeric, numeric_ranges}
use Rattle.std.proofs.lemmas.Bool.Decides.{nat_tests}
use Rattle.ucd_table.specs.Rows as tables
use Rattle.ucd_derived.specs.Binary.{is_xid_continue}
use Rattle.ucd_derived.specs.XidContinueRanges.{xid_continue_ranges}
use Rattle.typst_lexer.specs.declared.place.Behind.{Behind}
use Rattle.typst_lexer.specs.declared.place.Place.{Place}
use Rattle.typst_lexer.specs.declared.place.Place.TheVariants as place
use Rattle.typst_lexer.specs.Bytes.{behind_byte, ends_at, ends_before, goes_over, is_commented, is_mark, is_no_t, is_quoted, is_raw, is_text_end}
use Rattle.typst_lexer.specs.Characters.{begins, begins_with, is_name, is_white}
use Rattle.typst_lexer.specs.Classes.{begins_char, ends_line, first_char, is_alphanumeric, is_blank, is_name_part, is_newline}
use Rattle.typst_lexer.specs.Clusters.{joins, with_char}
use Rattle.typst_lexer.specs.Code.{is_suffix, stay_integer}
use Rattle.typst_lexer.specs.Letters.{is_letter}
use Rattle.typst_lexer.specs.Machine.{may_end, stay, stay_at}
use Rattle.typst_lexer.specs.Markup.{is_at_sign, is_hyphen, is_letter_h, is_period, is_plain, is_slash, is_space_in_text, text_goes_on}
use Rattle.typst_lexer.specs.Math.{is_math_part, longer_kind, name_with}
use Rattle.typst_lexer.proofs.Ascii.{begins_is, both, ends, first_is, has, has_not, moves, not_true, pick, same, skip}
use Rattle.typst_lexer.proofs.Simple.{other_joins}
use Rattle.typst_lexer.proofs.WhiteRuns.{at}

name_part_is : (b : ℕ) → b < 128 → is_name_part b ≡ is_name b
unfolding tables.in_ranges xid_continue_ranges is_xid_continue
name_part_is b low = same is_name_part is_name b low refl

pub math_part_is : (b : ℕ) → b < 128 → is_math_part b ≡ is_ascii_alphanumeric b
unfolding tables.in_ranges xid_continue_ranges is_xid_continue
math_part_is b low = same is_math_part is_ascii_alphanumeric b low refl

pub numeric_is : (b : ℕ) → b < 128 → is_numeric b ≡ is_ascii_digit b
unfolding in_ranges numeric_ranges is_numeric
numeric_is b low = same is_numeric is_ascii_digit b low refl

-- bytes that a token goes over
abbrev IsOver : Place → ℕ → List ℕ → Type 0
IsOver p b bs = (b < 128) × (stay_at p (b ∷ bs) ≡ Some p) × ((b == 46) ≡ false) × (may_end p ≡ true)

-- a byte that text goes over, whatever comes next
abbrev is_inner : ℕ → Bool
is_inner b = is_letter b || is_mark b

inner_low : (b : ℕ) → is_inner b ≡ true → b < 128
inner_low b h = grind (arith, nat_tests)

alphabetic_low : (b : ℕ) → is_ascii_alphabetic b ≡ true → b < 128
alphabetic_low b h = grind (arith, nat_tests)

is_from : (b n : ℕ) → (b == n) ≡ true → b ≡ n
is_from b n h = grind (arith, nat_tests)

white_low : (b : ℕ) → is_white b ≡ true → b < 128
white_low b h = grind (arith, nat_tests)

name_low : (b : ℕ) → is_name b ≡ true → b < 128
name_low b h = grind (arith, nat_tests)

low_from : (b : ℕ) → nat_lt b 128 ≡ true → b < 128
low_from b h = grind (arith, nat_tests)

zero_from : (n : ℕ) → (n == 0) ≡ true → n ≡ 0
zero_from n h = grind (arith, nat_tests)

name_over : (b : ℕ) (bs : List ℕ) (low : b < 128) → is_name b ≡ true → begins_char is_name_part (b ∷ bs) ≡ true
name_over b bs low h = begins_is b bs low is_name_part ∙ name_part_is b low ∙ h

or_left : (u v : Bool) → u ≡ true → (u || v) ≡ true
or_left true v e = refl
or_left false v e = cc

or_right : (u v : Bool) → v ≡ true → (u || v) ≡ true
or_right true v e = refl
or_right false v e = e

-- one of three tests of which one holds
one_of : (u v w : Bool) → (u || v || w) ≡ true → (u ≡ true) ⊎ ((v ≡ true) ⊎ (w ≡ true))
one_of true v w e = inl refl
one_of false true w e = inr (inl refl)
one_of false false true e = inr (inr refl)
one_of false false false e = cc

goes_on_plain : (w : List ℕ) → begins_char is_plain w ≡ true → text_goes_on w ≡ true
goes_on_plain w e =
    or_left _ _ (or_left _ _ (or_left _ _ (or_left _ _ (or_left _ _ (or_left _ _ e)))))

-- text goes over a byte that is in no other token
inner_over : (b : ℕ) (bs : List ℕ) → is_inner b ≡ true → IsOver place.Text b bs
inner_over b bs h =
    let low = inner_low b h in
    let plain : begins_char is_plain (b ∷ bs) ≡ true = begins_is b bs low is_plain ∙ has is_inner is_plain b low h refl in
    (low, pick _ _ _ (goes_on_plain (b ∷ bs) plain), has_not is_inner (λ c. c == 46) b low h refl, refl)

-- text goes over a blank before a letter
blank_over : (bs : List ℕ) → begins is_ascii_alphabetic bs ≡ true → IsOver place.Text 32 bs
unfolding in_ranges alphabetic_ranges is_alphabetic numeric_ranges is_numeric
blank_over [] h = cc
blank_over (c ∷ cs) h =
    let low = alphabetic_low c h in
    let word : begins_char is_alphanumeric (c ∷ cs) ≡ true = begins_is c cs low is_alphanumeric ∙ has is_ascii_alphabetic is_alphanumeric c low h refl in
    (omega arith, pick _ _ _ (or_left _ _ (or_left _ _ (or_left _ _ (or_left _ _ (or_left _ _ (or_right (begins_char is_plain (32 ∷ c ∷ cs)) _ word)))))), refl, refl)

-- text goes over an `h` that begins no link
h_over : (bs : List ℕ) → begins is_no_t bs ≡ true → IsOver place.Text 104 bs
h_over [] h = cc
h_over (c ∷ cs) h =
    let low = low_from c (both (nat_lt c 128) (not (c == 116)) h).0 in
    let no_link : is_letter_h (104 ∷ c ∷ cs) ≡ true = has is_no_t (λ c. is_letter_h (104 ∷ c ∷ cs)) c low h refl in
    (omega arith, pick _ _ _ (or_left _ (is_at_sign (104 ∷ c ∷ cs)) (or_right _ (is_letter_h (104 ∷ c ∷ cs)) no_link)), refl, refl)

text_over : (b : ℕ) (bs : List ℕ) → goes_over place.Text (b ∷ bs) ≡ true → IsOver place.Text b bs
text_over b bs h = elim (one_of (is_inner b) _ _ h) as (λ _. IsOver place.Text b bs) [
  | inl e ↦ inner_over b bs e
  | inr (inl e) ↦ let is = both (b == 32) (begins is_ascii_alphabetic bs) e in subst (λ n. IsOver place.Text n bs) (sym (is_from b 32 is.0)) (blank_over bs is.1)
  | inr (inr e) ↦ let is = both (b == 104) (begins is_no_t bs) e in subst (λ n. IsOver place.Text n bs) (sym (is_from b 104 is.0)) (h_over bs is.1)
]

over_is : (p : Place) (b : ℕ) (bs : List ℕ) → goes_over p (b ∷ bs) ≡ true → IsOver p b bs
over_is place.Text b bs h = text_over b bs h
over_is place.Blank b bs h =
    let low = white_low b h in
    (low, pick _ _ _ (begins_is b bs low is_whitespace ∙ has is_white is_whitespace b low h refl), has_not is_white (λ c. c == 46) b low h refl, refl)
over_is place.Name b bs h =
    let low = name_low b h in
    (low, pick _ _ _ (name_over b bs low h), has_not is_name (λ c. c == 46) b low h refl, refl)
over_is place.FieldName b bs h =
    let low = name_low b h in
    (low, pick _ _ _ (name_over b bs low h), has_not is_name (λ c. c == 46) b low h refl, refl)
over_is place.Str b bs h =
    let low = low_from b (both _ _ h).0 in
    let quote : begins_with (codes "\"") (b ∷ bs) ≡ false = has_not is_quoted (λ c. begins_with (codes "\"") (c ∷ bs)) b low h refl in
    let slash : begins_with (codes "\\") (b ∷ bs) ≡ false = has_not is_quoted (λ c. begins_with (codes "\\") (c ∷ bs)) b low h refl in
    (low, ap (λ (p : Place). Some p) (skip _ _ _ quote ∙ skip _ _ _ slash), has_not is_quoted (λ c. c == 46) b low h refl, refl)
over_is place.LineComment b bs h =
    let low = low_from b (both _ _ h).0 in
    (low, skip _ _ _ (begins_is b bs low is_newline ∙ has_not is_commented is_newline b low h refl), has_not is_commented (λ c. c == 46) b low h refl, refl)
over_is (place.RawText n m) b bs h =
    let is = both (m == 0) (is_raw b) h in
    let low = low_from b (both _ _ is.1).0 in
    let tick : begins_with (codes "`") (b ∷ bs) ≡ false = has_not is_raw (λ c. begins_with (codes "`") (c ∷ bs)) b low is.1 refl in
    (low, ap (λ (p : Place). Some p) (skip _ _ _ tick ∙ ap (λ (k : ℕ). place.RawText n k) (sym (zero_from m is.0))), has_not is_raw (λ c. c == 46) b low is.1 refl, refl)
over_is _ b bs h = cc

-- a token goes on over such a byte, and may end after it
pub over_stays : (p : Place) (k : Behind) (b : ℕ) (bs : List ℕ) → goes_over p (b ∷ bs) ≡ true → stay (at p k) (b ∷ bs) ≡ Some (at p (behind_byte b))
over_stays p k b bs h = let is = over_is p b bs h in moves b bs is.0 p p k is.1 is.2

pub over_ends : (p : Place) (b : ℕ) (bs : List ℕ) → goes_over p (b ∷ bs) ≡ true → may_end p ≡ true
over_ends p b bs h = (over_is p b bs h).3

-- the next ten bytes say whether a token goes over the first of them
pub over_window : (p : Place) (b : ℕ) (bs : List ℕ) → goes_over p (b ∷ take 9 bs) ≡ goes_over p (b ∷ bs)
over_window place.Text b [] = refl
over_window place.Text b (c ∷ cs) = refl
over_window _ b bs = refl

abbrev is_none : Option Place → Bool
is_none None = true
is_none (Some p) = false

none_from : (o : Option Place) → is_none o ≡ true → o ≡ None
none_from None e = refl
none_from (Some p) e = cc

space_ends : (b : ℕ) (bs : List ℕ) (x y : Place) → b < 128 → not (is_blank b) ≡ true
    → (if ends_line (b ∷ bs) then Some y else (if begins_char is_blank (b ∷ bs) then Some x else None)) ≡ None
space_ends b bs x y low h =
    let line : begins_char is_newline (b ∷ bs) ≡ false = begins_is b bs low is_newline ∙ has_not (λ c. not (is_blank c)) is_newline b low h refl in
    skip _ _ _ (and_left _ _ line) ∙ skip _ _ _ (begins_is b bs low is_blank ∙ not_true _ h)
  where
    and_left : (u v : Bool) → u ≡ false → (u && v) ≡ false
    and_left true v e = cc
    and_left false v e = refl

text_ends : (b : ℕ) (bs : List ℕ) → b < 128 → is_text_end b ≡ true → text_goes_on (b ∷ bs) ≡ false
text_ends b bs low h =
    ap (λ (v : Bool). v || is_space_in_text (b ∷ bs) || is_slash (b ∷ bs) || is_hyphen (b ∷ bs) || is_period (b ∷ bs) || is_letter_h (b ∷ bs) || is_at_sign (b ∷ bs))
    (begins_is b bs low is_plain)
    ∙ has_not is_text_end
    (λ c. is_plain c || is_space_in_text (c ∷ bs) || is_slash (c ∷ bs) || is_hyphen (c ∷ bs) || is_period (c ∷ bs) || is_letter_h (c ∷ bs) || is_at_sign (c ∷ bs)) b low h refl

ends_char : (b : ℕ) (bs : List ℕ) (f : ℕ → Option Place) → b < 128 → f b ≡ None
    → (let o : Option Place = elim (first_char (b ∷ bs)) as (λ _. Option Place) [ None ↦ None | Some c ↦ f c ] in o) ≡ None
ends_char b bs f low e = ap (λ (o : Option ℕ). elim o as (λ _. Option Place) [ None ↦ None | Some c ↦ f c ]) (first_is b bs low) ∙ e

ends_name : (b : ℕ) (bs : List ℕ) (x : Place) → b < 128 → not (is_name b) ≡ true → (if begins_char is_name_part (b ∷ bs) then Some x else None) ≡ None
ends_name b bs x low h = skip _ _ _ (begins_is b bs low is_name_part ∙ name_part_is b low ∙ not_true _ h)

ends_is : (p : Place) (b : ℕ) (bs : List ℕ) → b < 128 → ends_before p b ≡ true → stay_at p (b ∷ bs) ≡ None
ends_is place.Space b bs low h = space_ends b bs _ _ low h
ends_is place.Line b bs low h = space_ends b bs _ _ low h
ends_is place.Parbreak b bs low h = space_ends b bs _ _ low h
ends_is place.Text b bs low h = skip _ _ _ (text_ends b bs low h)
ends_is place.Blank b bs low h = skip _ _ _ (begins_is b bs low is_whitespace ∙ not_true _ h)
ends_is place.Integer b bs low h = none_from _ (has (λ c. not (is_suffix c || (c == 46))) (λ c. is_none (stay_integer (c ∷ bs))) b low h refl)
ends_is place.Name b bs low h = ends_name b bs _ low h
ends_is place.FieldName b bs low h = ends_name b bs _ low h
ends_is (place.Cluster kind cluster) b bs low h =
    ends_char b bs (λ c. if joins cluster c then Some (place.Cluster (longer_kind kind) (with_char cluster c)) else None) low
    (skip _ _ _ (other_joins cluster b low h))
ends_is (place.MathName single cluster) b bs low h =
    ends_char b bs (λ c. if is_math_part c then Some (name_with single cluster c) else None) low
    (skip _ _ _ (math_part_is b low ∙ not_true _ h))
ends_is place.MathNumber b bs low h =
    let digit : begins_char is_numeric (b ∷ bs) ≡ false = begins_is b bs low is_numeric ∙ numeric_is b low ∙ has_not (λ c. not (is_ascii_digit c || (c == 46))) is_ascii_digit b low h refl in
    let dot = has_not (λ c. not (is_ascii_digit c || (c == 46))) (λ c. begins_with (codes ".") (c ∷ bs) && begins_char is_numeric bs) b low h refl in
    skip _ _ _ digit ∙ skip _ _ _ dot
ends_is (place.Rest kind more) b bs low h = pick _ _ _ h
ends_is _ b bs low h = cc

-- a token ends before such a byte
pub ends_stays : (p : Place) (k : Behind) (b : ℕ) (bs : List ℕ) → ends_at p b ≡ true → stay (at p k) (b ∷ bs) ≡ None
ends_stays p k b bs h = let is = both _ _ h in let low = low_from b is.0 in ends b bs low p k (ends_is p b bs low is.1)
