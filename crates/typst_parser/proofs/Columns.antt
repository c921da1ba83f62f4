-- No printable character of ASCII is a newline, and each is one more column.
use Rattle.std.proofs.Common.{◌≡◌, ◌≢◌, ℕ, suc, ◌+◌, ◌-◌, ◌≤◌, ◌<◌, nat_lt, Bool, true, false, List, [], ◌∷◌, length, take, drop, get_or, refl, sym, ap, ◌∙◌, arith}
use Rattle.std.specs.Prelude.{◌||◌, ◌==◌, Option, Some, None, if◌then◌else◌}
use Rattle.std.specs.List.{prefix_len, take_while}
use Rattle.std.specs.Option.{option_map_or}
use Rattle.std.proofs.lemmas.Bool.Decides.{nat_tests}
use Rattle.std.proofs.lemmas.List.{take_rest}
use Rattle.std.proofs.lemmas.List.Folds.{length-prefix_len}
use Rattle.typst_lexer.specs.Characters.{begins, goes_on, is_code}
use Rattle.typst_lexer.specs.Classes.{begins_char, char_of, first_char, is_newline}
use Rattle.typst_lexer.specs.FirstCodes.{code_of_two}
use Rattle.typst_lexer.specs.LoneBlank.{IsBlankByte}
use Rattle.typst_lexer.proofs.FirstCodes.{first_code_is}
use Rattle.typst_parser.specs.Columns.{column_after, column_step, has_newline, is_printable}
use Rattle.typst_parser.specs.Sums.{capped_sum}

module _ (b : ℕ) (bs : List ℕ) (low : b < 128) where
  is_low : nat_lt b 128 ≡ true
  is_low = grind (arith, nat_tests)

  has_code : is_code b ≡ true
  has_code = grind (arith, nat_tests)

  first_is : first_char (b ∷ bs) ≡ Some b
  first_is =
      ap (λ (o : Option ℕ). elim o as (λ _. Option ℕ) [ None ↦ None | Some c ↦ char_of c ])
      (sym (first_code_is (b ∷ bs)) ∙ ap (λ (v : Bool). if v then Some b else code_of_two b bs) is_low)
      ∙ ap (λ (v : Bool). if v then Some b else None) has_code

  begins_is : (p : ℕ → Bool) → begins_char p (b ∷ bs) ≡ p b
  begins_is p = ap (λ (o : Option ℕ). option_map_or p o false) first_is

no_newline : (b : ℕ) → 32 ≤ b → b ≤ 126 → is_newline b ≡ false
no_newline b above below = grind (arith, nat_tests)

printable_is_no_newline : (w : List ℕ) → 0 < length w → 32 ≤ get_or w 0 0 → get_or w 0 0 ≤ 126 → begins_char is_newline w ≡ false
printable_is_no_newline [] some above below = absurd (omega arith)
printable_is_no_newline (b ∷ bs) some above below = begins_is b bs (omega arith) is_newline ∙ no_newline b above below

no_middle : (b : ℕ) → b < 128 → goes_on b ≡ false
no_middle b low = grind (arith, nat_tests)

printable_low : (b : ℕ) → is_printable b ≡ true → (32 ≤ b) × (b ≤ 126)
printable_low b e = (grind (arith, nat_tests), grind (arith, nat_tests))

pub printable_begins : (w : List ℕ) → 0 < length w → is_printable (get_or w 0 0) ≡ true → begins_char is_newline w ≡ false
printable_begins w some e = let bounds = printable_low (get_or w 0 0) e in printable_is_no_newline w some bounds.0 bounds.1

-- a printable character is one more column
step_is : (column b : ℕ) (bs : List ℕ) → is_printable b ≡ true → column_step column (b ∷ bs) ≡ capped_sum column 1
step_is column b bs e =
    let bounds = printable_low b e in
    ap (λ (v : Bool). if v then 0 else (if goes_on b then column else capped_sum column 1)) (printable_is_no_newline (b ∷ bs) (omega arith) bounds.0 bounds.1)
    ∙ ap (λ (v : Bool). if v then column else capped_sum column 1) (no_middle b (omega (arith, bounds.1)))

capped_more : (a n : ℕ) → capped_sum (capped_sum a 1) n ≡ capped_sum a (suc n)
capped_more a n = grind arith

capped_none : (a : ℕ) → a ≤ 0xFFFF_FFFF_FFFF_FFFF → capped_sum a 0 ≡ a
capped_none a fits = grind (arith, fits)

capped_fits : (a : ℕ) → capped_sum a 1 ≤ 0xFFFF_FFFF_FFFF_FFFF
capped_fits a = grind arith

over : (column : ℕ) (text : List ℕ) → column ≤ 0xFFFF_FFFF_FFFF_FFFF
    → column_after (capped_sum column (prefix_len is_printable text)) (drop (prefix_len is_printable text) text) ≡ column_after column text
over column [] fits = capped_none column fits
over column (b ∷ bs) fits = by (is_printable b) refl (over (capped_sum column 1) bs (capped_fits column))
  where
    by : (v : Bool) → is_printable b ≡ v
        → column_after (capped_sum (capped_sum column 1) (prefix_len is_printable bs)) (drop (prefix_len is_printable bs) bs) ≡ column_after (capped_sum column 1) bs
        → (let n : ℕ = if v then 1 + prefix_len is_printable bs else 0 in
        column_after (capped_sum column n) (drop n (b ∷ bs)) ≡ column_after column (b ∷ bs))
    by true e more =
        let m : ℕ = prefix_len is_printable bs in
        let one : 1 + m ≡ suc m = omega arith in
        ap (λ (n : ℕ). column_after (capped_sum column n) (drop n (b ∷ bs))) one
        ∙ ap (λ (c : ℕ). column_after c (drop m bs)) (sym (capped_more column m)) ∙ more ∙ ap (λ (c : ℕ). column_after c bs) (sym (step_is column b bs e))
    by false e more = ap (λ (c : ℕ). column_after c (b ∷ bs)) (capped_none column fits)

-- the column after the printable characters at the beginning
pub printables_are : (column n now : ℕ) (text : List ℕ) → column ≤ 0xFFFF_FFFF_FFFF_FFFF → n ≡ length (take_while is_printable text) → now ≡ capped_sum column n
    → column_after now (take (length text - n) (drop n text)) ≡ column_after column text
printables_are column n now text fits is sum =
    ap (column_after now) (take_rest text n)
    ∙ ap (λ (c : ℕ). column_after c (drop n text)) sum
    ∙ ap (λ (m : ℕ). column_after (capped_sum column m) (drop m text)) (is ∙ length-prefix_len is_printable text)
    ∙ over column text fits

-- a blank or a line feed
pub line_is : (byte : ℕ) → IsBlankByte byte → (byte == 10) ≡ has_newline (byte ∷ [])
line_is byte e = sym (begins_is byte [] (low byte e) is_newline ∙ of byte e) ∙ or_none (begins_char is_newline (byte ∷ []))
  where
    low : (b : ℕ) → IsBlankByte b → b < 128
    low b h = grind (arith, nat_tests)

    of : (b : ℕ) → IsBlankByte b → is_newline b ≡ (b == 10)
    of b h = grind (arith, nat_tests)

    or_none : (v : Bool) → v ≡ (v || false)
    or_none true = refl
    or_none false = refl

pub line_feed_column : (column byte : ℕ) → byte ≡ 10 → 0 ≡ column_step column (byte ∷ [])
line_feed_column column byte is =
    sym (ap (λ (b : ℕ). column_step column (b ∷ [])) is ∙ ap (λ (v : Bool). if v then 0 else (if goes_on 10 then column else capped_sum column 1)) (begins_is 10 [] (omega arith) is_newline))

pub blank_column : (column byte : ℕ) → IsBlankByte byte → byte ≢ 10 → capped_sum column 1 ≡ column_step column (byte ∷ [])
blank_column column byte e other = sym (ap (λ (b : ℕ). column_step column (b ∷ [])) (blank byte e other) ∙ step_is column 32 [] refl)
  where
    blank : (b : ℕ) → IsBlankByte b → b ≢ 10 → b ≡ 32
    blank b e other = grind (arith, nat_tests)
