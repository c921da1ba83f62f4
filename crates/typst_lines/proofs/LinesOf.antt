-- The lines of a text, and where they begin.
use Rattle.std.proofs.Common.{◌≡◌, ℕ, suc, ◌+◌, ◌-◌, ◌<◌, ◌≤◌, Bool, true, false, ◌&&◌, ◌||◌, cond, List, [], ◌∷◌, ◌++◌, length, get_or, take, drop, refl, ap, sym, ◌∙◌, arith, eqb, ltb, leb, length-append, length-take, ⊎_elim, subst, Option, Some, None}
use Rattle.std.specs.List.{concat, filter, range_with_len, slice_range, slice_get}
use Rattle.std.specs.Option.{SomeIff}
use Rattle.std.proofs.lemmas.List.{append_assoc, append-nil, get_or_append_left, get_or-append_right, take-append-drop, take_all, take-take}
use Rattle.std.proofs.lemmas.Option.{slice_get-get_or, slice_get_past}
use Rattle.std.proofs.lemmas.Bool.{cases_lt}
use Rattle.std.proofs.lemmas.Bool.Decides.{nat_tests}
use Rattle.typst_lines.specs.Columns.{line_before}
use Rattle.typst_lines.specs.LineEnds.{line_ends_between}
use Rattle.typst_lines.specs.LineStarts.{begins_line, line_starts, line_start, line_of, line_range}
use Rattle.typst_lines.specs.TextLines.{lines, lines_from, line_bytes, bytes_before, IsInLine, HasNoEndWithin, AreLinesInRow}
use Rattle.typst_lines.proofs.Offsets.{offsets, length-offsets, get_or-offsets, piece}
use Rattle.typst_lines.proofs.Seams.{begins-first, begins-before}
use Rattle.typst_lines.proofs.Numbered.{in_line}
use Rattle.typst_lines.proofs.Places.{end_next, end_last}
use Rattle.typst_lines.specs.declared.ends.LineEnds.{LineEnds}

-- ---- a line ends where the next one begins
pub ends_is : (ends : LineEnds) (before behind : List ℕ) → 0 < length before → line_ends_between ends before behind ≡ begins_line ends (before ++ behind) (length before)
unfolding line_ends_between begins_line
ends_is ends before behind some =
    let l1 : length before - 1 < length before = omega arith in
    let l2 : length before - 2 < length before = omega arith in
    let l3 : length before - 3 < length before = omega arith in
    let r1 = get_or_append_left before behind 0 (length before - 1) l1 in
    let r2 = get_or_append_left before behind 0 (length before - 2) l2 in
    let r3 = get_or_append_left before behind 0 (length before - 3) l3 in
    let z : eqb (length before) 0 ≡ false = grind (arith, nat_tests) in
    cc

-- the byte before a line's beginning goes on with no character that ends lines
record Last (b : ℕ) : Type 0 where
  no_nel : eqb b 0xC2 ≡ false
  no_lead : eqb b 0xE2 ≡ false
  no_middle : eqb b 0x80 ≡ false

last_is : (ends : LineEnds) (text : List ℕ) (n : ℕ) → 1 ≤ n → begins_line ends text n ≡ true → Last (get_or text (n - 1) 0)
unfolding begins_line
last_is ends text n some h = record { no_nel = grind (arith, nat_tests); no_lead = grind (arith, nat_tests); no_middle = grind (arith, nat_tests) }

off : (g b : Bool) → g ≡ false → (g && b) ≡ false
off g b e = rw e refl

no_first : (g a b : Bool) → a ≡ false → (g && (a && b)) ≡ false
no_first true a b e = rw e refl
no_first false a b e = refl

no_second : (g a b c : Bool) → b ≡ false → (g && (a && (b && c))) ≡ false
no_second true true b c e = rw e refl
no_second true false b c e = refl
no_second false a b c e = refl

-- so what ends there is in the line alone
module _ (all text : List ℕ) (n j : ℕ) (some : 1 ≤ j) (last : 1 ≤ n → Last (get_or all (n - 1) 0)) (reads : (k : ℕ) → get_or all (n + k) 0 ≡ get_or text k 0) where
  read_back : (d : ℕ) → d ≤ j → get_or all (n + j - d) 0 ≡ get_or text (j - d) 0
  read_back d le = let z : n + j - d ≡ n + (j - d) = omega arith in ap (λ i. get_or all i 0) z ∙ reads (j - d)

  nel_alike : (leb 2 (n + j) && (eqb (get_or all (n + j - 2) 0) 0xC2 && eqb (get_or all (n + j - 1) 0) 0x85)) ≡ (leb 2 j && (eqb (get_or text (j - 2) 0) 0xC2 && eqb (get_or text (j - 1) 0) 0x85))
  nel_alike = ⊎_elim
      (λ less.
      let none : leb 2 j ≡ false = grind (arith, nat_tests) in
      ⊎_elim
      (λ first. let none' : leb 2 (n + j) ≡ false = grind (arith, nat_tests) in off (leb 2 (n + j)) _ none' ∙ sym (off (leb 2 j) _ none))
      (λ later.
      let z : n + j - 2 ≡ n - 1 = omega arith in
      no_first (leb 2 (n + j)) (eqb (get_or all (n + j - 2) 0) 0xC2) _ (ap (λ i. eqb (get_or all i 0) 0xC2) z ∙ (last later).no_nel) ∙ sym (off (leb 2 j) _ none))
      (cases_lt n 1))
      (λ two.
      let e : leb 2 (n + j) ≡ leb 2 j = grind (arith, nat_tests) in
      let r1 = read_back 1 some in
      let r2 = read_back 2 two in
      cc)
      (cases_lt j 2)

  separator_alike : (b : ℕ → Bool)
      → (leb 3 (n + j) && (eqb (get_or all (n + j - 3) 0) 0xE2 && (eqb (get_or all (n + j - 2) 0) 0x80 && b (get_or all (n + j - 1) 0))))
      ≡ (leb 3 j && (eqb (get_or text (j - 3) 0) 0xE2 && (eqb (get_or text (j - 2) 0) 0x80 && b (get_or text (j - 1) 0))))
  separator_alike b = ⊎_elim
      (λ less.
      let none : leb 3 j ≡ false = grind (arith, nat_tests) in
      ⊎_elim
      (λ first. ⊎_elim
      (λ close. let none' : leb 3 (n + j) ≡ false = grind (arith, nat_tests) in off (leb 3 (n + j)) _ none' ∙ sym (off (leb 3 j) _ none))
      (λ two. let none' : leb 3 (n + j) ≡ false = grind (arith, nat_tests) in off (leb 3 (n + j)) _ none' ∙ sym (off (leb 3 j) _ none))
      (cases_lt j 2))
      (λ later. ⊎_elim
      (λ close.
      let z : n + j - 2 ≡ n - 1 = omega arith in
      no_second (leb 3 (n + j)) (eqb (get_or all (n + j - 3) 0) 0xE2) (eqb (get_or all (n + j - 2) 0) 0x80) _ (ap (λ i. eqb (get_or all i 0) 0x80) z ∙ (last later).no_middle) ∙ sym (off (leb 3 j) _ none))
      (λ two.
      let z : n + j - 3 ≡ n - 1 = omega arith in
      no_first (leb 3 (n + j)) (eqb (get_or all (n + j - 3) 0) 0xE2) _ (ap (λ i. eqb (get_or all i 0) 0xE2) z ∙ (last later).no_lead) ∙ sym (off (leb 3 j) _ none))
      (cases_lt j 2))
      (cases_lt n 1))
      (λ three.
      let e : leb 3 (n + j) ≡ leb 3 j = grind (arith, nat_tests) in
      let two : 2 ≤ j = omega arith in
      let r1 = read_back 1 some in
      let r2 = read_back 2 two in
      let r3 = read_back 3 three in
      cc)
      (cases_lt j 3)

-- so a line's beginnings are those in it alone
pub begins_shift : (ends : LineEnds) (earlier text : List ℕ) (j : ℕ) → begins_line ends (earlier ++ text) (length earlier) ≡ true → 1 ≤ j → begins_line ends (earlier ++ text) (length earlier + j) ≡ begins_line ends text j
unfolding begins_line
begins_shift ends earlier text j h some =
    let n = length earlier in
    let last = λ (l : 1 ≤ length earlier). last_is ends (earlier ++ text) (length earlier) l h in
    let reads : (k : ℕ) → get_or (earlier ++ text) (length earlier + k) 0 ≡ get_or text k 0 = λ k.
    let low : length earlier ≤ length earlier + k = omega arith in
    let z : length earlier + k - length earlier ≡ k = omega arith in
    get_or-append_right earlier text (length earlier) (length earlier + k) 0 refl low ∙ ap (λ i. get_or text i 0) z in
    let e0 : eqb (length earlier + j) 0 ≡ eqb j 0 = grind (arith, nat_tests) in
    let e1 : leb 1 (length earlier + j) ≡ leb 1 j = grind (arith, nat_tests) in
    let r0 = reads j in
    let r1 = read_back (earlier ++ text) text (length earlier) j some last reads 1 some in
    let nel = nel_alike (earlier ++ text) text (length earlier) j some last reads in
    let separator = separator_alike (earlier ++ text) text (length earlier) j some last reads (λ b. eqb b 0xA8 || eqb b 0xA9) in
    cc

-- ---- the lines' offsets are the beginnings of lines
step : (t u : Bool) (at m : ℕ) (l : List ℕ) (ended on : List (List ℕ)) (more : List ℕ) → t ≡ u → (u ≡ true → offsets (at + length l) ended ≡ m ∷ more) → offsets at on ≡ at ∷ more → offsets at (cond t (l ∷ ended) on) ≡ at ∷ cond u (m ∷ more) more
step t true at m l ended on more e ends goes = rw e (ap (λ x. at ∷ x) (ends refl))
step t false at m l ended on more e ends goes = rw e goes

offsets_from : (ends : LineEnds) (earlier line rest text : List ℕ) (at : ℕ) → text ≡ earlier ++ (line ++ rest) → at ≡ length earlier → begins_line ends text at ≡ true → offsets at (lines_from ends line rest) ≡ at ∷ filter (begins_line ends text) (range_with_len (at + length line + 1) (length rest))
offsets_from ends earlier line [] text at et ea h = refl
offsets_from ends earlier line (b ∷ rest) text at et ea h =
    let l = line ++ b ∷ [] in
    let m = at + length line + 1 in
    let long : length (line ++ b ∷ []) ≡ length line + 1 = length-append line (b ∷ []) in
    let all : text ≡ earlier ++ ((line ++ b ∷ []) ++ rest) = et ∙ ap (λ x. earlier ++ x) (sym (append_assoc line (b ∷ []) rest)) in
    let seam : begins_line ends (earlier ++ ((line ++ b ∷ []) ++ rest)) (length earlier) ≡ true = ap (λ x. begins_line ends x (length earlier)) (sym all) ∙ ap (begins_line ends text) (sym ea) ∙ h in
    let some : 1 ≤ length (line ++ b ∷ []) = omega arith in
    let place : length earlier + length (line ++ b ∷ []) ≡ at + length line + 1 = omega arith in
    let same : line_ends_between ends (line ++ b ∷ []) rest ≡ begins_line ends text (at + length line + 1) =
    ends_is ends (line ++ b ∷ []) rest some ∙ sym (begins_shift ends earlier ((line ++ b ∷ []) ++ rest) (length (line ++ b ∷ [])) seam some)
    ∙ ap (λ x. begins_line ends x (length earlier + length (line ++ b ∷ []))) (sym all) ∙ ap (begins_line ends text) place in
    let next : at + length (line ++ b ∷ []) ≡ at + length line + 1 = omega arith in
    let on : at + length (line ++ b ∷ []) + 1 ≡ at + length line + 1 + 1 = omega arith in
    let none : at + length line + 1 + 0 + 1 ≡ at + length line + 1 + 1 = omega arith in
    let behind : text ≡ (earlier ++ (line ++ b ∷ [])) ++ ([] ++ rest) = all ∙ sym (append_assoc earlier (line ++ b ∷ []) rest) in
    let far : at + length line + 1 ≡ length (earlier ++ (line ++ b ∷ [])) = omega (arith, length-append earlier (line ++ b ∷ [])) in
    step (line_ends_between ends (line ++ b ∷ []) rest) (begins_line ends text (at + length line + 1)) at (at + length line + 1) (line ++ b ∷ []) (lines_from ends [] rest) (lines_from ends (line ++ b ∷ []) rest) (filter (begins_line ends text) (range_with_len (at + length line + 1 + 1) (length rest))) same
    (λ e. ap (λ x. offsets x (lines_from ends [] rest)) next
    ∙ offsets_from ends (earlier ++ (line ++ b ∷ [])) [] rest text (at + length line + 1) behind far e
    ∙ ap (λ x. (at + length line + 1) ∷ filter (begins_line ends text) (range_with_len x (length rest))) none)
    (offsets_from ends earlier (line ++ b ∷ []) rest text at all ea h ∙ ap (λ x. at ∷ filter (begins_line ends text) (range_with_len x (length rest))) on)

pub starts_are : (ends : LineEnds) (text : List ℕ) → line_starts ends text ≡ offsets 0 (lines ends text)
unfolding lines
starts_are ends text =
    let n : length text + 1 - 0 ≡ suc (length text) = omega arith in
    let one : 0 + 0 + 1 ≡ 0 + 1 = omega arith in
    ap (λ k. filter (begins_line ends text) (range_with_len 0 k)) n
    ∙ ap (λ t. cond t (0 ∷ filter (begins_line ends text) (range_with_len (0 + 1) (length text))) (filter (begins_line ends text) (range_with_len (0 + 1) (length text)))) (begins-first ends text)
    ∙ ap (λ k. 0 ∷ filter (begins_line ends text) (range_with_len k (length text))) (sym one)
    ∙ sym (offsets_from ends [] [] text text 0 refl refl (begins-first ends text))

-- ---- the lines joined are the text
joined_step : (t : Bool) (l rest : List ℕ) (ended on : List (List ℕ)) → concat ended ≡ rest → concat on ≡ l ++ rest → concat (cond t (l ∷ ended) on) ≡ l ++ rest
joined_step true l rest ended on e f = ap (λ x. l ++ x) e
joined_step false l rest ended on e f = f

joined_from : (ends : LineEnds) (line rest : List ℕ) → concat (lines_from ends line rest) ≡ line ++ rest
joined_from ends line [] = refl
joined_from ends line (b ∷ rest) =
    joined_step (line_ends_between ends (line ++ b ∷ []) rest) (line ++ b ∷ []) rest (lines_from ends [] rest) (lines_from ends (line ++ b ∷ []) rest) (joined_from ends [] rest) (joined_from ends (line ++ b ∷ []) rest)
    ∙ append_assoc line (b ∷ []) rest

pub lines-joined : (ends : LineEnds) (text : List ℕ) → concat (lines ends text) ≡ text
unfolding lines
lines-joined ends text = joined_from ends [] text

-- ---- there is one
some_step : (t : Bool) (l : List ℕ) (ended on : List (List ℕ)) → 0 < length on → 0 < length (cond t (l ∷ ended) on)
some_step true l ended on h = omega arith
some_step false l ended on h = h

some_from : (ends : LineEnds) (line rest : List ℕ) → 0 < length (lines_from ends line rest)
some_from ends line [] = omega arith
some_from ends line (b ∷ rest) = some_step (line_ends_between ends (line ++ b ∷ []) rest) (line ++ b ∷ []) (lines_from ends [] rest) (lines_from ends (line ++ b ∷ []) rest) (some_from ends (line ++ b ∷ []) rest)

pub lines-some : (ends : LineEnds) (text : List ℕ) → 0 < length (lines ends text)
unfolding lines
lines-some ends text = some_from ends [] text

-- ---- and they are apart
-- no line begins in what has been read of one, but at its beginning
abbrev pub IsUnbroken : (ends : LineEnds) → List ℕ → List ℕ → ℕ → Type 0
IsUnbroken ends line rest n = (at : ℕ) → 0 < at → at < n → begins_line ends (line ++ rest) at ≡ false

none_within : (ends : LineEnds) (line rest : List ℕ) → IsUnbroken ends line rest (length line) → HasNoEndWithin ends line
none_within ends line rest h = λ at low high.
    let long : length (take at line) ≡ at = omega (arith, length-take at line) in
    let some : 0 < length (take at line) = omega arith in
    ends_is ends (take at line) (drop at line) some
    ∙ ap (λ x. begins_line ends x (length (take at line))) (take-append-drop at line)
    ∙ ap (begins_line ends line) long
    ∙ ap (λ x. begins_line ends x at) (sym (append-nil line))
    ∙ begins-before ends line [] rest at high
    ∙ h at low high

open_end : (ends : LineEnds) (line : List ℕ) → IsUnbroken ends line [] (length line + 1) → line_ends_between ends line [] ≡ false
unfolding line_ends_between
open_end ends [] h = refl
open_end ends (b ∷ bs) h =
    let some : 0 < length (b ∷ bs) = omega arith in
    let less : length (b ∷ bs) < length (b ∷ bs) + 1 = omega arith in
    ends_is ends (b ∷ bs) [] some ∙ h (length (b ∷ bs)) some less

row_step : (ends : LineEnds) (t : Bool) (l rest : List ℕ) (ended on : List (List ℕ)) → HasNoEndWithin ends l → (t ≡ true → (line_ends_between ends l (concat ended) ≡ ltb 0 (length ended)) × AreLinesInRow ends ended) → (t ≡ false → AreLinesInRow ends on) → AreLinesInRow ends (cond t (l ∷ ended) on)
row_step ends true l rest ended on within stops goes = let y = stops refl in (within, y.0, y.1)
row_step ends false l rest ended on within stops goes = goes refl

row_from : (ends : LineEnds) (line rest : List ℕ) → IsUnbroken ends line rest (length line + 1) → AreLinesInRow ends (lines_from ends line rest)
row_from ends line [] h =
    let within : IsUnbroken ends line [] (length line) = λ at low high. let l : at < length line + 1 = omega arith in h at low l in
    (none_within ends line [] within, open_end ends line h, tt)
row_from ends line (b ∷ rest) h =
    let l = line ++ b ∷ [] in
    let long : length (line ++ b ∷ []) ≡ length line + 1 = length-append line (b ∷ []) in
    let some : 0 < length (line ++ b ∷ []) = omega arith in
    let within : IsUnbroken ends (line ++ b ∷ []) rest (length (line ++ b ∷ [])) = λ at low high.
    let l' : at < length line + 1 = omega arith in
    ap (λ x. begins_line ends x at) (append_assoc line (b ∷ []) rest) ∙ h at low l' in
    row_step ends (line_ends_between ends (line ++ b ∷ []) rest) (line ++ b ∷ []) rest (lines_from ends [] rest) (lines_from ends (line ++ b ∷ []) rest)
    (none_within ends (line ++ b ∷ []) rest within)
    (λ e.
    let more : ltb 0 (length (lines_from ends [] rest)) ≡ true = let s = some_from ends [] rest in grind (arith, nat_tests) in
    (ap (line_ends_between ends (line ++ b ∷ [])) (joined_from ends [] rest) ∙ e ∙ sym more, row_from ends [] rest (λ at low high. absurd (omega arith))))
    (λ e. row_from ends (line ++ b ∷ []) rest (λ at low high. ⊎_elim
    (λ less. within at low less)
    (λ ge. let same : at ≡ length (line ++ b ∷ []) = omega arith in ap (begins_line ends ((line ++ b ∷ []) ++ rest)) same ∙ sym (ends_is ends (line ++ b ∷ []) rest some) ∙ e)
    (cases_lt at (length (line ++ b ∷ [])))))

pub lines-in_row : (ends : LineEnds) (text : List ℕ) → AreLinesInRow ends (lines ends text)
unfolding lines
lines-in_row ends text = row_from ends [] text (λ at low high. absurd (omega arith))

-- ---- what is known of the lines by where they begin
pub count_lines : (ends : LineEnds) (starts text : List ℕ) → starts ≡ line_starts ends text → length starts ≡ length (lines ends text)
count_lines ends starts text e = ap (λ x. length x) (e ∙ starts_are ends text) ∙ length-offsets 0 (lines ends text)

pub is_there : (ends : LineEnds) (text : List ℕ) (line : ℕ) → line < length (lines ends text) → line < length (line_starts ends text)
is_there ends text line there = let n = count_lines ends (line_starts ends text) text refl in omega arith

pub start_is : (ends : LineEnds) (text : List ℕ) (line : ℕ) → line < length (lines ends text) → line_start ends text line ≡ bytes_before ends text line
start_is ends text line there = ap (λ x. get_or x line 0) (starts_are ends text) ∙ get_or-offsets 0 (lines ends text) line there ∙ zero-add (bytes_before ends text line)
  where
    zero-add : (n : ℕ) → 0 + n ≡ n
    zero-add n = omega arith

pub found_start : (ends : LineEnds) (starts text : List ℕ) (line : ℕ) → starts ≡ line_starts ends text → SomeIff (slice_get starts line) (line < length (lines ends text)) (bytes_before ends text line)
found_start ends starts text line e =
    let n = count_lines ends starts text e in
    ⊎_elim
    (λ less.
    let there : line < length (lines ends text) = omega arith in
    let is : SomeIff (Some (get_or starts line 0)) (line < length (lines ends text)) (bytes_before ends text line) = (there, ap (λ x. get_or x line 0) e ∙ start_is ends text line there) in
    subst (λ (o : Option ℕ). SomeIff o (line < length (lines ends text)) (bytes_before ends text line)) (sym (slice_get-get_or starts line 0 less)) is)
    (λ past.
    let is : SomeIff None (line < length (lines ends text)) (bytes_before ends text line) = λ there. absurd (omega arith) in
    subst (λ (o : Option ℕ). SomeIff o (line < length (lines ends text)) (bytes_before ends text line)) (sym (slice_get_past starts line past)) is)
    (cases_lt line (length starts))

pub end_is : (ends : LineEnds) (text : List ℕ) (line : ℕ) → line < length (lines ends text) → (line_range ends text line).end ≡ bytes_before ends text (line + 1)
end_is ends text line there =
    let n = count_lines ends (line_starts ends text) text refl in
    ⊎_elim
    (λ more. let less : line + 1 < length (lines ends text) = omega arith in end_next ends text line more ∙ start_is ends text (line + 1) less)
    (λ none.
    let all : length (lines ends text) ≤ line + 1 = omega arith in
    end_last ends text line none ∙ ap (λ x. length x) (sym (lines-joined ends text) ∙ ap concat (sym (take_all (line + 1) (lines ends text) all))))
    (cases_lt (line + 1) (length (line_starts ends text)))

pub range_is : (ends : LineEnds) (text : List ℕ) (line : ℕ) → line < length (lines ends text) → slice_range text (line_range ends text line).start (line_range ends text line).end ≡ line_bytes ends text line
range_is ends text line there =
    let one : line + 1 ≡ suc line = omega arith in
    ap (λ s. slice_range text s (line_range ends text line).end) (start_is ends text line there)
    ∙ ap (λ e. slice_range text (bytes_before ends text line) e) (end_is ends text line there ∙ ap (λ k. bytes_before ends text k) one)
    ∙ ap (λ x. slice_range x (bytes_before ends text line) (bytes_before ends text (suc line))) (sym (lines-joined ends text))
    ∙ piece (lines ends text) line there

pub is_in_line : (ends : LineEnds) (text : List ℕ) (at : ℕ) → at ≤ length text → IsInLine ends text at (line_of ends text at)
is_in_line ends text at le =
    let n = count_lines ends (line_starts ends text) text refl in
    let h = in_line ends text at le in
    let there : line_of ends text at < length (lines ends text) = omega (arith, h.inside) in
    record {
      there = there;
      behind = omega (arith, start_is ends text (line_of ends text at) there, h.before);
      before = λ more.
          let more' : line_of ends text at + 1 < length (line_starts ends text) = omega arith in
          omega (arith, start_is ends text (line_of ends text at + 1) more, h.behind more');
    }

-- what comes before a place is the first bytes of its line
pub before_is : (ends : LineEnds) (text : List ℕ) (at : ℕ) → at ≤ length text → line_before ends text at ≡ take (at - bytes_before ends text (line_of ends text at)) (line_bytes ends text (line_of ends text at))
before_is ends text at le =
    let line = line_of ends text at in
    let h = is_in_line ends text at le in
    let start = start_is ends text (line_of ends text at) h.there in
    let end : at ≤ (line_range ends text (line_of ends text at)).end = ⊎_elim
    (λ more. omega (arith, end_is ends text (line_of ends text at) h.there, h.before more))
    (λ none.
    let n = count_lines ends (line_starts ends text) text refl in
    let last : length (line_starts ends text) ≤ line_of ends text at + 1 = omega arith in
    let e = end_last ends text (line_of ends text at) last in omega arith)
    (cases_lt (line_of ends text at + 1) (length (lines ends text))) in
    let short : at - line_start ends text (line_of ends text at) ≤ (line_range ends text (line_of ends text at)).end - line_start ends text (line_of ends text at) = omega arith in
    sym (take-take (at - line_start ends text (line_of ends text at)) ((line_range ends text (line_of ends text at)).end - line_start ends text (line_of ends text at)) (drop (line_start ends text (line_of ends text at)) text) short)
    ∙ ap (take (at - line_start ends text (line_of ends text at))) (range_is ends text (line_of ends text at) h.there)
    ∙ ap (λ s. take (at - s) (line_bytes ends text (line_of ends text at))) start
