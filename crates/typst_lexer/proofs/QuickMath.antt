-- Letters, names and numbers of math that are quickly found are those of the machine.
use Rattle.std.proofs.Common.{◌≡◌, ℕ, suc, ◌+◌, ◌-◌, ◌<◌, ◌≢◌, nat_lt, get_or, Bool, true, false, List, [], ◌∷◌, length, take, drop, refl, sym, ap, subst, ◌∙◌, arith}
use Rattle.std.specs.Prelude.{◌&&◌, ◌||◌, ◌==◌, not, codes, slice_index, Option, Some, None, if◌then◌else◌}
use Rattle.std.specs.Char.{is_ascii_alphabetic, is_ascii_alphanumeric, is_ascii_digit, is_whitespace}
use Rattle.std.specs.List.{take_while}
use Rattle.std.specs.Option.{option_map_or}
use Rattle.std.specs.Char.Unicode.Rows.{in_ranges}
use Rattle.std.specs.Char.Unicode.Alphabetic.{alphabetic_ranges, is_alphabetic}
use Rattle.std.specs.Char.Unicode.Numeric.{is_numeric, numeric_ranges}
use Rattle.std.proofs.lemmas.Bool.Decides.{nat_tests}
use Rattle.std.proofs.lemmas.List.{take_rest}
use Rattle.ucd_breaks.specs.declared.GraphemeClusterBreak.TheVariants as breaks
use Rattle.ucd_table.specs.Rows as tables
use Rattle.ucd_derived.specs.Binary.{is_xid_start}
use Rattle.ucd_derived.specs.XidStartRanges.{xid_start_ranges}
use Rattle.typst_lexer.specs.declared.cluster.Cluster.{Cluster}
use Rattle.typst_lexer.specs.declared.head.FirstToken.{FirstToken}
use Rattle.typst_lexer.specs.declared.mode.Mode.TheVariants as modes
use Rattle.typst_lexer.specs.declared.place.Behind.{Behind}
use Rattle.typst_lexer.specs.declared.place.Behind.TheVariants as behinds
use Rattle.typst_lexer.specs.declared.place.Place.{Place}
use Rattle.typst_lexer.specs.declared.place.Place.TheVariants as place
use Rattle.typst_lexer.specs.declared.place.Reading.{Reading}
use Rattle.typst_lexer.specs.declared.head.Run.{Run}
use Rattle.typst_lexer.specs.FirstCodes.{first_code}
use Rattle.typst_lexer.specs.FirstToken.{run_of}
use Rattle.typst_lexer.specs.Runs.{leapt, longer, run, stopped}
use Rattle.typst_lexer.specs.declared.mode.Mode.{Mode}
use Rattle.typst_lexer.proofs.WhiteRuns.{at, nothing_begins}
use Rattle.typst_lexer.specs.declared.token.TokenKind.{TokenKind}
use Rattle.typst_lexer.specs.declared.token.TokenKind.TheVariants as kinds
use Rattle.typst_lexer.specs.Bytes.{behind_byte, is_alone, is_other, is_simple}
use Rattle.typst_lexer.specs.Characters.{begins, begins_with, goes_on}
use Rattle.typst_lexer.specs.Classes.{begins_char, char_of, first_char}
use Rattle.typst_lexer.specs.Clusters.{cluster_of}
use Rattle.typst_lexer.specs.Machine.{accepts, kind_of, may_end, reading, stay, stay_at}
use Rattle.typst_lexer.specs.Math.{after_char, char_kind, enter_char, enter_formula, enter_math, enter_shorthand, is_closing, is_math_name, is_math_part, is_math_start, is_opening, name_with}
use Rattle.typst_lexer.specs.Quick.{IsQuick, Stops}
use Rattle.typst_lexer.proofs.Ascii.{all_below, begins_is, below_at, first_is, has, has_not, moves, pick, skip}
use Rattle.typst_lexer.proofs.QuickTokens.{and_left, begins_at, byte_stops, cut, found, low_to, run_more, run_none}
use Rattle.typst_lexer.proofs.FirstCodes.{first_code_is}
use Rattle.typst_lexer.proofs.Easy.{math_part_is, numeric_is}
use Rattle.typst_lexer.proofs.Signs.{alone, alphanumeric_low, math_char}
use Rattle.typst_lexer.proofs.Simple.{other_joins, simple_cluster}

-- the token of a run over bytes
pub as_token : (m : Mode) (k : Behind) (p : Place) (xs : List ℕ) (kind : TokenKind) (n : ℕ) → run_of m k xs ≡ leapt (suc n) p xs → kind_of p (take (suc n) xs) ≡ kind
    → IsQuick m k xs (record { kind = kind; len = suc n })
as_token m k p xs kind n is of some =
    ap (λ (t : TokenKind). (let t : FirstToken = record { kind = t; len = suc n; look = suc n + 10; behind = behind_byte (slice_index xs (suc n - 1)) } in t)) (sym of)
    ∙ ap (λ (r : Run). (let t : FirstToken = record { kind = kind_of r.last.place (take r.len xs); len = r.len; look = r.passed + 10; behind = r.last.behind } in t)) (sym is)

abbrev pub or_place : Option Place → Place → Place
or_place o x = elim o as (λ _. Place) [ None ↦ x | Some p ↦ p ]

-- a token that is no white space, no comment, no escape, no string and no prime
pub plain : (w : List ℕ) → begins_char is_whitespace w ≡ false → begins_with (codes "//") w ≡ false → begins_with (codes "/*") w ≡ false → begins_with (codes "*/") w ≡ false
    → begins_with (codes "\\") w ≡ false → begins_with (codes "\"") w ≡ false → begins_with (codes "'") w ≡ false → enter_math w ≡ enter_shorthand w
plain w a b c d e f g =
    skip _ _ _ a
    ∙ ap (λ (o : Option Place). or_place o (enter_formula w)) (skip _ _ _ b ∙ skip _ _ _ c ∙ skip _ _ _ d)
    ∙ skip _ _ _ e ∙ skip _ _ _ f ∙ skip _ _ _ g

-- another byte than this
abbrev pub is_but : ℕ → ℕ → Bool
is_but n c = not (c == n)

pub but : (n c : ℕ) → c ≢ n → is_but n c ≡ true
but n c other = grind (arith, nat_tests)

-- Names and numbers: runs of bytes of a class, over which a token stays inside of the same.
abbrev after : Reading → Option Reading → List ℕ → Run
after s o bs = elim o as (λ _. Run) [ None ↦ stopped s | Some t ↦ longer accepts s (run stay accepts 10 t bs) ]

-- the run over so many bytes behind this one
abbrev IsRun : Place → Reading → ℕ → List ℕ → ℕ → Type 0
IsRun p s b bs n = run stay accepts 10 s bs ≡ (let r : Run = record { passed = n; len = n; last = at p (behind_byte (get_or (b ∷ bs) n 0)) } in r)

-- a token goes on over letters or digits of the class
abbrev Stays : Place → Place → (ℕ → Bool) → Type 0
Stays p q f = (b : ℕ) (bs : List ℕ) → f b ≡ true → (is_ascii_alphanumeric b ≡ true) × (stay_at p (b ∷ bs) ≡ Some q)

no_dot : (b : ℕ) → is_ascii_alphanumeric b ≡ true → (b == 46) ≡ false
no_dot b word = has_not is_ascii_alphanumeric (λ c. c == 46) b (alphanumeric_low b word) word refl

-- what is left behind the bytes of the class
abbrev ended : (ℕ → Bool) → List ℕ → List ℕ
ended f bs = drop (length (take_while f bs)) bs

-- one byte more, and what a run from there makes of the rest
step : (p q : Place) (f : ℕ → Bool) (k : Behind) (b c : ℕ) (cs : List ℕ) → may_end q ≡ true → Stays p q f → f c ≡ true
    → IsRun q (at q (behind_byte c)) c cs (length (take_while f cs)) → IsRun q (at p k) b (c ∷ cs) (suc (length (take_while f cs)))
step p q f k b c cs may stays is more =
    let n : ℕ = length (take_while f cs) in
    let o = stays c (take 9 cs) is in
    ap (λ (o : Option Reading). after (at p k) o cs) (moves c (take 9 cs) (alphanumeric_low c o.0) p q k o.1 (no_dot c o.0))
    ∙ ap (longer accepts (at p k)) more
    ∙ ap (λ (v : Bool). (let r : Run = record { passed = suc n; len = if v then suc n else 0; last = if v then at q (behind_byte (get_or (c ∷ cs) n 0)) else at p k } in r)) may

runs : (p : Place) (f : ℕ → Bool) → may_end p ≡ true → Stays p p f → (b : ℕ) (bs : List ℕ) → Stops p (ended f bs) → IsRun p (at p (behind_byte b)) b bs (length (take_while f bs))
runs p f may stays b [] stops = refl
runs p f may stays b (c ∷ cs) stops = by_test (f c) refl (runs p f may stays c cs)
  where
    by_test : (v : Bool) → f c ≡ v → (Stops p (ended f cs) → IsRun p (at p (behind_byte c)) c cs (length (take_while f cs))) → IsRun p (at p (behind_byte b)) b (c ∷ cs) (length (take_while f (c ∷ cs)))
    by_test true is more =
        let n = run_more f c cs is in
        subst (IsRun p (at p (behind_byte b)) b (c ∷ cs)) (sym n) (step p p f (behind_byte b) b c cs may stays is (more (subst (λ j. Stops p (drop j (c ∷ cs))) n stops)))
    by_test false is more =
        let n = run_none f c cs is in
        subst (IsRun p (at p (behind_byte b)) b (c ∷ cs)) (sym n)
        (ap (λ (o : Option Reading). after (at p (behind_byte b)) o cs) (subst (λ j. Stops p (drop j (c ∷ cs))) n stops (behind_byte b) (omega arith)))

-- a run with its first byte
abbrev pub whole : Run → Run
whole r = record { passed = suc r.passed; len = suc r.len; last = r.last }

-- the token of such a run
run_found : (k : Behind) (p q : Place) (b : ℕ) (bs : List ℕ) (n : ℕ) (kind : TokenKind) → is_ascii_alphanumeric b ≡ true → enter_math (b ∷ take 9 bs) ≡ p
    → IsRun q (at p (behind_byte b)) b bs n → kind_of q (take (suc n) (b ∷ bs)) ≡ kind → IsQuick modes.Math k (b ∷ bs) (record { kind = kind; len = suc n })
run_found k p q b bs n kind word is more =
    as_token modes.Math k q (b ∷ bs) kind n
    (ap (λ (s : Reading). whole (run stay accepts 10 s bs)) (begins_at modes.Math k p b bs (alphanumeric_low b word) (no_dot b word) is)
    ∙ ap whole more
    ∙ ap (λ (j : ℕ). (let r : Run = record { passed = suc n; len = suc n; last = at q (behind_byte (get_or (b ∷ bs) j 0)) } in r)) (let same : n ≡ suc n - 1 = omega arith in same))

-- what is behind n bytes, as the code cuts it off
behind : (p : Place) (n b : ℕ) (bs : List ℕ) (j : ℕ) → n ≡ suc j → Stops p (cut n (b ∷ bs)) → Stops p (drop j bs)
behind p n b bs j more end = subst (λ i. Stops p (drop i (b ∷ bs))) more (subst (Stops p) (take_rest (b ∷ bs) n) end)

digit_word : (b : ℕ) → is_ascii_digit b ≡ true → is_ascii_alphanumeric b ≡ true
digit_word b h = grind (arith, nat_tests)

letter_word : (b : ℕ) → is_ascii_alphabetic b ≡ true → is_ascii_alphanumeric b ≡ true
letter_word b h = grind (arith, nat_tests)

-- a letter or a digit
module _ (b : ℕ) (bs : List ℕ) (word : is_ascii_alphanumeric b ≡ true) where
  no_word : (s : List ℕ) → all_below (λ c. not (is_ascii_alphanumeric c) || not (begins_with s (c ∷ bs))) 128 ≡ true → begins_with s (b ∷ bs) ≡ false
  no_word s ok = has_not is_ascii_alphanumeric (λ c. begins_with s (c ∷ bs)) b (alphanumeric_low b word) word ok

  enters_char : enter_math (b ∷ bs) ≡ enter_char b (b ∷ bs)
  enters_char =
      let low = alphanumeric_low b word in
      plain (b ∷ bs) (begins_is b bs low is_whitespace ∙ has_not is_ascii_alphanumeric is_whitespace b low word refl) (no_word (codes "//") refl)
      (no_word (codes "/*") refl) (no_word (codes "*/") refl) (no_word (codes "\\") refl) (no_word (codes "\"") refl) (no_word (codes "'") refl)
      ∙ alone (b ∷ bs) (has is_ascii_alphanumeric is_alone b low word refl)
      ∙ math_char (b ∷ bs) word
      ∙ ap (λ (o : Option ℕ). elim o as (λ _. Place) [ None ↦ place.Rest kinds.MathText 0 | Some d ↦ enter_char d (b ∷ bs) ]) (first_is b bs low)

-- Numbers.
pub number_stops : (bytes : List ℕ) → slice_index bytes 0 < 128 → is_ascii_digit (slice_index bytes 0) ≡ false → not (slice_index bytes 0 == 46) ≡ true → Stops place.MathNumber bytes
number_stops bytes below digit dot =
    let b : ℕ = slice_index bytes 0 in
    byte_stops place.MathNumber bytes (ap (λ (v : Bool). v && not (is_ascii_digit b || (b == 46))) (low_to b below) ∙ ap (λ (v : Bool). not (v || (b == 46))) digit ∙ dot)

number_stays : Stays place.MathNumber place.MathNumber is_ascii_digit
number_stays b bs h = let low = alphanumeric_low b (digit_word b h) in (digit_word b h, pick _ _ _ (begins_is b bs low is_numeric ∙ numeric_is b low ∙ h))

number_enters : (b : ℕ) (bs : List ℕ) → is_ascii_digit b ≡ true → enter_math (b ∷ bs) ≡ place.MathNumber
unfolding tables.in_ranges xid_start_ranges is_xid_start
number_enters b bs h =
    let low = alphanumeric_low b (digit_word b h) in
    enters_char b bs (digit_word b h)
    ∙ skip _ _ _ (and_left _ _ (begins_is b bs low is_math_start ∙ has_not is_ascii_digit is_math_start b low h refl))
    ∙ pick _ _ _ (numeric_is b low ∙ h)

pub number_found : (k : Behind) (bytes : List ℕ) (n : ℕ) → begins is_ascii_digit bytes ≡ true → n ≡ length (take_while is_ascii_digit bytes) → Stops place.MathNumber (cut n bytes)
    → IsQuick modes.Math k bytes (record { kind = kinds.MathText; len = n })
number_found k [] n e is end = cc
number_found k (b ∷ bs) n e is end =
    let p : Place = place.MathNumber in
    let j : ℕ = length (take_while is_ascii_digit bs) in
    let more : n ≡ suc j = is ∙ run_more is_ascii_digit b bs e in
    subst (λ i. IsQuick modes.Math k (b ∷ bs) (record { kind = kinds.MathText; len = i })) (sym more)
    (run_found k p p b bs j kinds.MathText (digit_word b e) (number_enters b (take 9 bs) e)
    (runs p is_ascii_digit refl number_stays b bs (behind p n b bs j more end))
    refl)

-- Letters and names.
abbrev simple : Cluster
simple = record { last = breaks.Other; linker = false; pictograph = false; joiner = false; half_flag = false }

word_cluster : (b : ℕ) → is_ascii_alphanumeric b ≡ true → cluster_of b ≡ simple
word_cluster b h = simple_cluster b (has is_ascii_alphanumeric is_simple b (alphanumeric_low b h) h refl)

name_stays : (single : Bool) → Stays (place.MathName single simple) (place.MathName false simple) is_ascii_alphanumeric
name_stays single b bs h =
    let low = alphanumeric_low b h in (
      h,
      ap (λ (o : Option ℕ). elim o as (λ _. Option Place) [ None ↦ None | Some c ↦ if is_math_part c then Some (name_with single simple c) else None ]) (first_is b bs low)
          ∙ pick _ _ _ (math_part_is b low ∙ h)
          ∙ ap (λ (p : Place). Some p) (skip _ _ _ (other_joins simple b low refl) ∙ ap (place.MathName false) (word_cluster b h)),
    )

pub after_is : (b : ℕ) (bs : List ℕ) → b < 128 → after_char (b ∷ bs) ≡ bs
after_is b bs low = ap (λ (n : ℕ). drop n (b ∷ bs)) (pick (nat_lt b 128) 1 _ (below_at (λ c. nat_lt c 128) 128 b refl low))

-- a letter
module _ (b : ℕ) (bs : List ℕ) (letter : is_ascii_alphabetic b ≡ true) where
  here : b < 128
  here = alphanumeric_low b (letter_word b letter)

  name_next : is_math_name (b ∷ bs) ≡ begins_char is_math_part bs
  unfolding tables.in_ranges xid_start_ranges is_xid_start
  name_next =
      ap (λ (v : Bool). v && begins_char is_math_part (after_char (b ∷ bs))) (begins_is b bs here is_math_start ∙ has is_ascii_alphabetic is_math_start b here letter refl)
      ∙ ap (begins_char is_math_part) (after_is b bs here)

  letter_enters : begins_char is_math_part bs ≡ false → enter_math (b ∷ bs) ≡ place.Cluster kinds.MathLetter simple
  unfolding in_ranges numeric_ranges is_numeric alphabetic_ranges is_alphabetic
  letter_enters last =
      enters_char b bs (letter_word b letter)
      ∙ skip _ _ _ (name_next ∙ last)
      ∙ skip _ _ _ (has_not is_ascii_alphabetic is_numeric b here letter refl)
      ∙ ap (place.Cluster (char_kind b)) (word_cluster b (letter_word b letter))
      ∙ ap (λ (kind : TokenKind). place.Cluster kind simple)
      (skip _ _ _ (has_not is_ascii_alphabetic (λ c. c == 123) b here letter refl)
      ∙ skip _ _ _ (has_not is_ascii_alphabetic (λ c. c == 125) b here letter refl)
      ∙ skip _ _ _ (has_not is_ascii_alphabetic is_opening b here letter refl)
      ∙ skip _ _ _ (has_not is_ascii_alphabetic is_closing b here letter refl)
      ∙ pick _ _ _ (has is_ascii_alphabetic is_alphabetic b here letter refl))

  name_enters : begins_char is_math_part bs ≡ true → enter_math (b ∷ bs) ≡ place.MathName true simple
  name_enters more = enters_char b bs (letter_word b letter) ∙ pick _ _ _ (name_next ∙ more) ∙ ap (place.MathName true) (word_cluster b (letter_word b letter))

-- the first character is within the next nine bytes
first_within : (c : ℕ) (cs : List ℕ) → first_char (c ∷ take 8 cs) ≡ first_char (c ∷ take 9 cs)
first_within c cs =
    ap (λ (o : Option ℕ). elim o as (λ _. Option ℕ) [ None ↦ None | Some d ↦ char_of d ])
    (sym (first_code_is (c ∷ take 8 cs)) ∙ codes_within c cs ∙ first_code_is (c ∷ take 9 cs))
  where
    codes_within : (c : ℕ) (cs : List ℕ) → first_code (c ∷ take 8 cs) ≡ first_code (c ∷ take 9 cs)
    codes_within c [] = refl
    codes_within c (d ∷ []) = refl
    codes_within c (d ∷ e ∷ []) = refl
    codes_within c (d ∷ e ∷ f ∷ fs) = refl

abbrev named : Option ℕ → Option Place
named o = elim o as (λ _. Option Place) [ None ↦ None | Some c ↦ if is_math_part c then Some (name_with true simple c) else None ]

abbrev read : Option Place → Behind → List ℕ → Option Reading
read o k w = elim o as (λ _. Option Reading) [ None ↦ None | Some now ↦ Some (reading now k w) ]

-- where a name ends, none of its characters comes next
no_part : (bs : List ℕ) → Stops (place.MathName true simple) bs → begins_char is_math_part (take 9 bs) ≡ false
no_part [] stops = nothing_begins is_math_part
no_part (c ∷ cs) stops =
    ap (λ (o : Option ℕ). option_map_or is_math_part o false) (first_within c cs)
    ∙ by_middle (goes_on c) (first_char (c ∷ take 9 cs)) (stops behinds.Other (omega arith))
  where
    by_part : (v : Bool) (p : Place) → read (if v then Some p else None) behinds.Other (c ∷ take 9 cs) ≡ None → v ≡ false
    by_part true p e = cc
    by_part false p e = refl

    by_middle : (v : Bool) (o : Option ℕ) → read (if v then Some (place.MathName true simple) else named o) behinds.Other (c ∷ take 9 cs) ≡ None → option_map_or is_math_part o false ≡ false
    by_middle true o e = cc
    by_middle false None e = refl
    by_middle false (Some d) e = by_part (is_math_part d) (name_with true simple d) e

-- a letter by itself
alone_found : (k : Behind) (b : ℕ) (bs : List ℕ) → is_ascii_alphabetic b ≡ true → Stops (place.Cluster kinds.MathLetter simple) bs → Stops (place.MathName true simple) bs
    → IsQuick modes.Math k (b ∷ bs) (record { kind = kinds.MathLetter; len = 1 })
alone_found k b bs letter ends apart =
    let p : Place = place.Cluster kinds.MathLetter simple in
    as_token modes.Math k p (b ∷ bs) kinds.MathLetter 0
    (found modes.Math k p b bs 0 (here b bs letter) (no_dot b (letter_word b letter)) (letter_enters b (take 9 bs) letter (no_part bs apart)) (omega arith) (omega arith) ends)
    refl

-- a letter with more letters and digits
longer_found : (k : Behind) (b c : ℕ) (cs : List ℕ) → is_ascii_alphabetic b ≡ true → is_ascii_alphanumeric c ≡ true
    → Stops (place.MathName false simple) (ended is_ascii_alphanumeric cs)
    → IsQuick modes.Math k (b ∷ c ∷ cs) (record { kind = kinds.MathIdent; len = suc (suc (length (take_while is_ascii_alphanumeric cs))) })
longer_found k b c cs letter h ends =
    let n : ℕ = length (take_while is_ascii_alphanumeric cs) in
    let p : Place = place.MathName false simple in
    let low = alphanumeric_low c h in
    run_found k (place.MathName true simple) p b (c ∷ cs) (suc n) kinds.MathIdent (letter_word b letter)
    (name_enters b (c ∷ take 8 cs) letter (begins_is c (take 8 cs) low is_math_part ∙ math_part_is c low ∙ h))
    (step (place.MathName true simple) p is_ascii_alphanumeric (behind_byte b) b c cs refl (name_stays true) h
    (runs p is_ascii_alphanumeric refl (name_stays false) c cs ends))
    refl

-- no name of math goes on into these bytes
abbrev EndsNames : List ℕ → Type 0
EndsNames rest = (single : Bool) (cluster : Cluster) → Stops (place.MathName single cluster) rest

-- no letter of math goes on into these bytes
abbrev EndsLetters : List ℕ → Type 0
EndsLetters rest = (kind : TokenKind) (cluster : Cluster) → is_other cluster.last ≡ true → Stops (place.Cluster kind cluster) rest

pub letter_found : (k : Behind) (bytes : List ℕ) (n : ℕ) → begins is_ascii_alphabetic bytes ≡ true → n ≡ length (take_while is_ascii_alphanumeric bytes) → n ≡ 1
    → EndsLetters (cut n bytes) → EndsNames (cut n bytes) → IsQuick modes.Math k bytes (record { kind = kinds.MathLetter; len = n })
letter_found k [] n letter is one ends apart = cc
letter_found k (b ∷ bs) n letter is one ends apart =
    subst (λ i. IsQuick modes.Math k (b ∷ bs) (record { kind = kinds.MathLetter; len = i })) (sym one)
    (alone_found k b bs letter
    (behind (place.Cluster kinds.MathLetter simple) n b bs 0 one (ends kinds.MathLetter simple refl)) (behind (place.MathName true simple) n b bs 0 one (apart true simple)))

pub name_found : (k : Behind) (bytes : List ℕ) (n : ℕ) → begins is_ascii_alphabetic bytes ≡ true → n ≡ length (take_while is_ascii_alphanumeric bytes) → n ≢ 1
    → EndsNames (cut n bytes) → IsQuick modes.Math k bytes (record { kind = kinds.MathIdent; len = n })
name_found k [] n letter is more end = cc
name_found k (b ∷ []) n letter is more end = absurd (more (is ∙ run_more is_ascii_alphanumeric b [] (letter_word b letter)))
name_found k (b ∷ c ∷ cs) n letter is more end = by_test (is_ascii_alphanumeric c) refl
  where
    first : n ≡ suc (length (take_while is_ascii_alphanumeric (c ∷ cs)))
    first = is ∙ run_more is_ascii_alphanumeric b (c ∷ cs) (letter_word b letter)

    by_test : (v : Bool) → is_ascii_alphanumeric c ≡ v → IsQuick modes.Math k (b ∷ c ∷ cs) (record { kind = kinds.MathIdent; len = n })
    by_test true h =
        let j : ℕ = length (take_while is_ascii_alphanumeric cs) in
        let two : n ≡ suc (suc j) = first ∙ ap suc (run_more is_ascii_alphanumeric c cs h) in
        subst (λ i. IsQuick modes.Math k (b ∷ c ∷ cs) (record { kind = kinds.MathIdent; len = i })) (sym two)
        (longer_found k b c cs letter h (behind (place.MathName false simple) n b (c ∷ cs) (suc j) two (end false simple)))
    by_test false h = absurd (more (first ∙ ap suc (run_none is_ascii_alphanumeric c cs h)))

-- what begins with a letter or with a digit
pub begins_first : (f : ℕ → Bool) (bytes : List ℕ) → 0 < length bytes → f (slice_index bytes 0) ≡ true → begins f bytes ≡ true
begins_first f [] some e = absurd (omega arith)
begins_first f (b ∷ bs) some e = e
