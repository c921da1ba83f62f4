-- Columns of a text that is UTF-8, by its characters.
use Rattle.std.proofs.Common.{◌≡◌, ℕ, zero, suc, ◌+◌, ◌-◌, ◌/◌, ◌%◌, ◌<◌, ◌≤◌, Bool, true, false, cond, List, [], ◌∷◌, ◌++◌, length, get_or, drop, take, refl, ap, sym, ◌∙◌, subst, arith, ltb, sum_by, ⊎_elim, length-drop}
use lib.Utf8.{encode, encodes}
use Rattle.std.specs.Char.{len_utf8}
use Rattle.std.specs.Char.Escape.{encode_utf16}
use Rattle.std.specs.Str.{IsUtf8, IsCharBoundary, chars}
use Rattle.std.specs.List.{filter, range_with_len}
use Rattle.std.proofs.lemmas.Bool.{cases_lt}
use Rattle.std.proofs.lemmas.Bool.Decides.{nat_tests}
use Rattle.std.proofs.lemmas.List.{get_or-drop}
use Rattle.std.proofs.lemmas.List.Sums.{sum_by-append, sum_by-cons}
use Rattle.std.proofs.lemmas.Str.{encodes-chars, IsUtf8-between, IsUtf8-drop, IsCharBoundary-start, IsCharBoundary-end, IsCharBoundary-after_ascii, IsCharBoundary-past_char}
use Rattle.typst_lines.specs.Columns.{width, goes_on, line_before, column_of, offset_in}
use Rattle.typst_lines.specs.LineStarts.{begins_line, line_starts, line_start, line_of, line_range}
use Rattle.typst_lines.specs.declared.column.ColumnUnit.TheVariants.{Byte, Character, Utf16}
use Rattle.typst_lines.proofs.Numbered.{in_line}
use Rattle.typst_lines.proofs.Places.{end_next, end_last, line_ordered}
use Rattle.typst_lines.specs.declared.ends.LineEnds.{LineEnds}

-- ---- the bytes of a character
one_byte : (c : ℕ) → c < 128 → encode c ≡ c ∷ []
unfolding encode
one_byte c l = let e : ltb c 128 ≡ true = grind (arith, nat_tests) in rw e refl

two_bytes : (c : ℕ) → 128 ≤ c → c < 2048 → encode c ≡ (192 + c / 64) ∷ (128 + c % 64) ∷ []
unfolding encode
two_bytes c l h =
    let e : ltb c 128 ≡ false = grind (arith, nat_tests) in
    let f : ltb c 2048 ≡ true = grind (arith, nat_tests) in
    rw (e, f) refl

three_bytes : (c : ℕ) → 2048 ≤ c → c < 65536 → encode c ≡ (224 + c / 4096) ∷ (128 + (c / 64) % 64) ∷ (128 + c % 64) ∷ []
unfolding encode
three_bytes c l h =
    let e : ltb c 128 ≡ false = grind (arith, nat_tests) in
    let f : ltb c 2048 ≡ false = grind (arith, nat_tests) in
    let g : ltb c 65536 ≡ true = grind (arith, nat_tests) in
    rw (e, f, g) refl

four_bytes : (c : ℕ) → 65536 ≤ c → encode c ≡ (240 + c / 262144) ∷ (128 + (c / 4096) % 64) ∷ (128 + (c / 64) % 64) ∷ (128 + c % 64) ∷ []
unfolding encode
four_bytes c l =
    let e : ltb c 128 ≡ false = grind (arith, nat_tests) in
    let f : ltb c 2048 ≡ false = grind (arith, nat_tests) in
    let g : ltb c 65536 ≡ false = grind (arith, nat_tests) in
    rw (e, f, g) refl

-- ---- how far a column moves over them
record Passed (b characters units : ℕ) : Type 0 where
  by_character : width Character b ≡ characters
  by_unit : width Utf16 b ≡ units

ascii : (b : ℕ) → b < 128 → Passed b 1 1
ascii b l =
    let e : goes_on b ≡ false = grind (arith, nat_tests) in
    record { by_character = rw e refl; by_unit = rw e (grind (arith, nat_tests)) }

follows : (k : ℕ) → Passed (128 + k % 64) 0 0
follows k =
    let less : k % 64 < 64 = omega arith in
    let e : goes_on (128 + k % 64) ≡ true = grind (arith, nat_tests) in
    record { by_character = rw e refl; by_unit = rw e refl }

leads : (b : ℕ) → 192 ≤ b → b < 240 → Passed b 1 1
leads b l h =
    let e : goes_on b ≡ false = grind (arith, nat_tests) in
    record { by_character = rw e refl; by_unit = rw e (grind (arith, nat_tests)) }

leads_four : (b : ℕ) → 240 ≤ b → Passed b 1 2
leads_four b l =
    let e : goes_on b ≡ false = grind (arith, nat_tests) in
    record { by_character = rw e refl; by_unit = rw e (grind (arith, nat_tests)) }

one_unit : (c : ℕ) → c < 65536 → length (encode_utf16 c) ≡ 1
one_unit c l = let e : ltb c 65536 ≡ true = grind (arith, nat_tests) in rw e refl

two_units : (c : ℕ) → 65536 ≤ c → length (encode_utf16 c) ≡ 2
two_units c l = let e : ltb c 65536 ≡ false = grind (arith, nat_tests) in rw e refl

record PassedAll (c : ℕ) : Type 0 where
  by_character : sum_by (width Character) (encode c) ≡ 1
  by_unit : sum_by (width Utf16) (encode c) ≡ length (encode_utf16 c)

passed_all : (c : ℕ) → PassedAll c
passed_all c = ⊎_elim
    (λ one.
    let e = one_byte c one in
    let w = ascii c one in
    let u : c < 65536 = omega arith in
    record {
      by_character = ap (sum_by (width Character)) e ∙ omega (arith, w.by_character);
      by_unit = ap (sum_by (width Utf16)) e ∙ omega (arith, w.by_unit, one_unit c u);
    })
    (λ more. ⊎_elim
    (λ two.
    let e = two_bytes c more two in
    let l : 192 ≤ 192 + c / 64 = omega arith in
    let h : 192 + c / 64 < 240 = omega arith in
    let w = leads (192 + c / 64) l h in
    let x = follows c in
    let u : c < 65536 = omega arith in
    record {
      by_character = ap (sum_by (width Character)) e ∙ omega (arith, w.by_character, x.by_character);
      by_unit = ap (sum_by (width Utf16)) e ∙ omega (arith, w.by_unit, x.by_unit, one_unit c u);
    })
    (λ most. ⊎_elim
    (λ three.
    let e = three_bytes c most three in
    let l : 192 ≤ 224 + c / 4096 = omega arith in
    let h : 224 + c / 4096 < 240 = omega arith in
    let w = leads (224 + c / 4096) l h in
    let x = follows c in
    let y = follows (c / 64) in
    record {
      by_character = ap (sum_by (width Character)) e ∙ omega (arith, w.by_character, x.by_character, y.by_character);
      by_unit = ap (sum_by (width Utf16)) e ∙ omega (arith, w.by_unit, x.by_unit, y.by_unit, one_unit c three);
    })
    (λ four.
    let e = four_bytes c four in
    let l : 240 ≤ 240 + c / 262144 = omega arith in
    let w = leads_four (240 + c / 262144) l in
    let x = follows c in
    let y = follows (c / 64) in
    let z = follows (c / 4096) in
    record {
      by_character = ap (sum_by (width Character)) e ∙ omega (arith, w.by_character, x.by_character, y.by_character, z.by_character);
      by_unit = ap (sum_by (width Utf16)) e ∙ omega (arith, w.by_unit, x.by_unit, y.by_unit, z.by_unit, two_units c four);
    })
    (cases_lt c 65536))
    (cases_lt c 2048))
    (cases_lt c 128)

-- ---- and over those of many
characters_of : (cs : List ℕ) → sum_by (width Character) (encodes cs) ≡ length cs
characters_of [] = refl
characters_of (c ∷ cs) =
    let w = passed_all c in
    sum_by-append (width Character) (encode c) (encodes cs) ∙ omega (arith, w.by_character, characters_of cs)

units_of : (cs : List ℕ) → sum_by (width Utf16) (encodes cs) ≡ sum_by (λ c. length (encode_utf16 c)) cs
units_of [] = refl
units_of (c ∷ cs) =
    let w = passed_all c in
    sum_by-append (width Utf16) (encode c) (encodes cs)
    ∙ omega (arith, w.by_unit, units_of cs, sum_by-cons (λ c. length (encode_utf16 c)) c cs)

-- ---- a line begins with a character
lead_of_two : (c : ℕ) (rest : List ℕ) → get_or (encode c ++ rest) 0 0 ≡ 0xC2 → len_utf8 c ≡ 2
lead_of_two c rest h = ⊎_elim
    (λ one. let b = ap (λ l. get_or (l ++ rest) 0 0) (one_byte c one) in absurd (omega arith))
    (λ more. ⊎_elim
    (λ two. grind (arith, nat_tests))
    (λ most. ⊎_elim
    (λ three. let b = ap (λ l. get_or (l ++ rest) 0 0) (three_bytes c most three) in absurd (omega arith))
    (λ four. let b = ap (λ l. get_or (l ++ rest) 0 0) (four_bytes c four) in absurd (omega arith))
    (cases_lt c 65536))
    (cases_lt c 2048))
    (cases_lt c 128)

lead_of_three : (c : ℕ) (rest : List ℕ) → get_or (encode c ++ rest) 0 0 ≡ 0xE2 → len_utf8 c ≡ 3
lead_of_three c rest h = ⊎_elim
    (λ one. let b = ap (λ l. get_or (l ++ rest) 0 0) (one_byte c one) in absurd (omega arith))
    (λ more. ⊎_elim
    (λ two. let b = ap (λ l. get_or (l ++ rest) 0 0) (two_bytes c more two) in absurd (omega arith))
    (λ most. ⊎_elim
    (λ three. grind (arith, nat_tests))
    (λ four. let b = ap (λ l. get_or (l ++ rest) 0 0) (four_bytes c four) in absurd (omega arith))
    (cases_lt c 65536))
    (cases_lt c 2048))
    (cases_lt c 128)

-- the place after a character that begins here
behind_char : (text : List ℕ) (at b len : ℕ) → IsUtf8 text → at < length text → get_or text at 0 ≡ b → 192 ≤ b → ((c : ℕ) (rest : List ℕ) → get_or (encode c ++ rest) 0 0 ≡ b → len_utf8 c ≡ len) → IsCharBoundary text (at + len)
behind_char text at b len u less e lead long =
    let le : at ≤ length text = omega arith in
    let here : IsCharBoundary text at = (le, λ _ _. omega arith) in
    let rest = IsUtf8-drop text at u here in
    of_rest rest.0 rest.1.1
  where
    of_rest : (cs : List ℕ) → encodes cs ≡ drop at text → IsCharBoundary text (at + len)
    of_rest [] e' = absurd (omega (arith, ap (λ l. length l) e', length-drop at text))
    of_rest (c ∷ cs) e' =
        let le : at ≤ length text = omega arith in
        let here : IsCharBoundary text at = (le, λ _ _. omega arith) in
        let z : at + 0 ≡ at = omega arith in
        let first : get_or (encode c ++ encodes cs) 0 0 ≡ b = ap (λ l. get_or l 0 0) e' ∙ get_or-drop at text 0 0 ∙ ap (λ i. get_or text i 0) z ∙ e in
        subst (λ n. IsCharBoundary text (at + n)) (long c (encodes cs) first) (IsCharBoundary-past_char text (encodes cs) at c le (IsUtf8-drop text at u here) (sym e'))

start_boundary : (ends : LineEnds) (text : List ℕ) (at : ℕ) → IsUtf8 text → at ≤ length text → begins_line ends text at ≡ true → IsCharBoundary text at
unfolding begins_line
start_boundary ends text at u le h = ⊎_elim
    (λ first. let z : 0 ≡ at = omega arith in subst (IsCharBoundary text) z (IsCharBoundary-start text u))
    (λ some. ⊎_elim
    (λ low.
    let less : at - 1 < length text = omega arith in
    let z : at - 1 + 1 ≡ at = omega arith in
    subst (IsCharBoundary text) z (IsCharBoundary-after_ascii text (at - 1) u less low))
    (λ wide. ⊎_elim
    (λ nel.
    let two : 2 ≤ at = grind (arith, nat_tests) in
    let b : get_or text (at - 2) 0 ≡ 0xC2 = grind (arith, nat_tests) in
    let less : at - 2 < length text = omega arith in
    let z : at - 2 + 2 ≡ at = omega arith in
    subst (IsCharBoundary text) z (behind_char text (at - 2) 0xC2 2 u less b (omega arith) lead_of_two))
    (λ separator.
    let three : 3 ≤ at = grind (arith, nat_tests) in
    let b : get_or text (at - 3) 0 ≡ 0xE2 = grind (arith, nat_tests) in
    let less : at - 3 < length text = omega arith in
    let z : at - 3 + 3 ≡ at = omega arith in
    subst (IsCharBoundary text) z (behind_char text (at - 3) 0xE2 3 u less b (omega arith) lead_of_three))
    (cases_lt (get_or text (at - 1) 0) 0x86))
    (cases_lt (get_or text (at - 1) 0) 128))
    (cases_lt at 1)

-- ---- a number that is picked passes
passes_more : (p : ℕ → Bool) (b : Bool) (a : ℕ) (rest : List ℕ) (k : ℕ) → (b ≡ true → p a ≡ true) → ((j : ℕ) → j < length rest → p (get_or rest j 0) ≡ true) → k < length (cond b (a ∷ rest) rest) → p (get_or (cond b (a ∷ rest) rest) k 0) ≡ true
passes_more p true a rest zero here h l = here refl
passes_more p true a rest (suc k) here h l = let within : k < length rest = omega arith in h k within
passes_more p false a rest k here h l = h k l

passes : (p : ℕ → Bool) (a n k : ℕ) → k < length (filter p (range_with_len a n)) → p (get_or (filter p (range_with_len a n)) k 0) ≡ true
passes p a zero k l = absurd (omega arith)
passes p a (suc n) k l = passes_more p (p a) a (filter p (range_with_len (a + 1) n)) k (λ e. e) (λ j l'. passes p (a + 1) n j l') l

line_boundary : (ends : LineEnds) (text : List ℕ) (line : ℕ) → IsUtf8 text → line < length (line_starts ends text) → IsCharBoundary text (line_start ends text line)
line_boundary ends text line u there =
    let ordered = line_ordered ends text line there in
    let inside : line_start ends text line ≤ length text = omega (arith, ordered.order, ordered.inside) in
    start_boundary ends text (line_start ends text line) u inside (passes (begins_line ends text) 0 (length text + 1 - 0) line there)

-- and ends with one
pub record IsWhole (ends : LineEnds) (text : List ℕ) (line : ℕ) : Type 0 where
  pub order : line_start ends text line ≤ (line_range ends text line).end
  pub front : IsCharBoundary text (line_start ends text line)
  pub back : IsCharBoundary text (line_range ends text line).end

pub whole_line : (ends : LineEnds) (text : List ℕ) (line : ℕ) → IsUtf8 text → line < length (line_starts ends text) → IsWhole ends text line
whole_line ends text line u there = record {
  order = (line_ordered ends text line there).order;
  front = line_boundary ends text line u there;
  back = ⊎_elim
      (λ more. subst (IsCharBoundary text) (sym (end_next ends text line more)) (line_boundary ends text (line + 1) u more))
      (λ none. subst (IsCharBoundary text) (sym (end_last ends text line none)) (IsCharBoundary-end text))
      (cases_lt (line + 1) (length (line_starts ends text)));
}

before_is_utf8 : (ends : LineEnds) (text : List ℕ) (at : ℕ) → IsUtf8 text → IsCharBoundary text at → IsUtf8 (line_before ends text at)
before_is_utf8 ends text at u h =
    let line = in_line ends text at h.0 in
    IsUtf8-between text (line_start ends text (line_of ends text at)) at u line.before (line_boundary ends text (line_of ends text at) u line.inside) h

pub column_characters : (ends : LineEnds) (text : List ℕ) (at : ℕ) → IsUtf8 text → IsCharBoundary text at → column_of ends Character text at ≡ length (chars (line_before ends text at))
column_characters ends text at u h =
    ap (sum_by (width Character)) (sym (encodes-chars (line_before ends text at) (before_is_utf8 ends text at u h))) ∙ characters_of (chars (line_before ends text at))

pub column_units : (ends : LineEnds) (text : List ℕ) (at : ℕ) → IsUtf8 text → IsCharBoundary text at → column_of ends Utf16 text at ≡ sum_by (λ c. length (encode_utf16 c)) (chars (line_before ends text at))
column_units ends text at u h =
    ap (sum_by (width Utf16)) (sym (encodes-chars (line_before ends text at) (before_is_utf8 ends text at u h))) ∙ units_of (chars (line_before ends text at))

-- the same of all that is before a place
first_is_utf8 : (text : List ℕ) (at : ℕ) → IsUtf8 text → IsCharBoundary text at → IsUtf8 (take at text)
first_is_utf8 text at u h =
    let low : 0 ≤ at = omega arith in
    let all : at - 0 ≡ at = omega arith in
    subst (λ (n : ℕ). IsUtf8 (take n text)) all (IsUtf8-between text 0 at u low (IsCharBoundary-start text u) h)

pub offset_characters : (text : List ℕ) (at : ℕ) → IsUtf8 text → IsCharBoundary text at → offset_in Character text at ≡ length (chars (take at text))
offset_characters text at u h =
    ap (sum_by (width Character)) (sym (encodes-chars (take at text) (first_is_utf8 text at u h))) ∙ characters_of (chars (take at text))

pub offset_units : (text : List ℕ) (at : ℕ) → IsUtf8 text → IsCharBoundary text at → offset_in Utf16 text at ≡ sum_by (λ c. length (encode_utf16 c)) (chars (take at text))
offset_units text at u h =
    ap (sum_by (width Utf16)) (sym (encodes-chars (take at text) (first_is_utf8 text at u h))) ∙ units_of (chars (take at text))

bytes_of : (bs : List ℕ) → sum_by (width Byte) bs ≡ length bs
bytes_of [] = refl
bytes_of (b ∷ bs) = omega (arith, sum_by-cons (width Byte) b bs, bytes_of bs)

pub column_bytes : (ends : LineEnds) (text : List ℕ) (at : ℕ) → column_of ends Byte text at ≡ length (line_before ends text at)
column_bytes ends text at = bytes_of (line_before ends text at)
