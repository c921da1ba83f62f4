-- The tokens that are quickly found are those of the machine.
use Rattle.std.proofs.Common.{◌≡◌, ◌≢◌, ℕ, zero, suc, inl, inr, ◌+◌, ◌-◌, ◌<◌, ◌≤◌, nat_lt, Bool, true, false, List, [], ◌∷◌, length, take, drop, refl, sym, ap, subst, ◌∙◌, arith}
use Rattle.std.specs.Prelude.{◌&&◌, ◌||◌, ◌==◌, not, codes, slice_index, Option, Some, None, if◌then◌else◌}
use Rattle.std.specs.Char.{is_ascii_alphanumeric, is_ascii_graphic, is_whitespace}
use Rattle.std.specs.Char.Unicode.Rows.{in_ranges}
use Rattle.std.specs.Char.Unicode.Alphabetic.{alphabetic_ranges, is_alphabetic}
use Rattle.std.specs.Char.Unicode.Numeric.{is_numeric, numeric_ranges}
use Rattle.std.specs.List.{take_while}
use Rattle.std.proofs.lemmas.Bool.{cases_lt}
use Rattle.std.proofs.lemmas.Bool.Decides.{nat_tests}
use Rattle.std.proofs.lemmas.List.{length-drop, take_rest}
use Rattle.std.proofs.lemmas.List.Folds.{length-prefix_len}
use Rattle.std.proofs.lemmas.List.Sums.{prefix_len-drop_no, prefix_len-drop_yes, prefix_len-le-length}
use Rattle.typst_lexer.specs.declared.head.FirstToken.{FirstToken}
use Rattle.typst_lexer.specs.declared.head.Run.{Run}
use Rattle.typst_lexer.specs.declared.mode.Mode.{Mode}
use Rattle.typst_lexer.specs.declared.mode.Mode.TheVariants as modes
use Rattle.typst_lexer.specs.declared.place.Behind.{Behind}
use Rattle.typst_lexer.specs.declared.place.Place.{Place}
use Rattle.typst_lexer.specs.declared.place.Place.TheVariants as place
use Rattle.typst_lexer.specs.declared.place.Reading.{Reading}
use Rattle.typst_lexer.specs.declared.token.TokenKind.{TokenKind}
use Rattle.typst_lexer.specs.declared.token.TokenKind.TheVariants as kinds
use Rattle.typst_lexer.specs.Bytes.{behind_byte, easy_len, ends_at, ends_before, goes_over_text, is_bracket, is_text_end, text_len}
use Rattle.typst_lexer.specs.Characters.{begins, begins_with, goes_on, is_name, is_name_start, is_white}
use Rattle.typst_lexer.specs.Classes.{begins_char, is_at_blank, is_alphanumeric, is_blank, is_newline, is_wordy}
use Rattle.typst_lexer.specs.Code.{enter_bracket, is_field}
use Rattle.typst_lexer.specs.FirstToken.{run_of}
use Rattle.typst_lexer.specs.Letters.{is_letter}
use Rattle.typst_lexer.specs.Machine.{accepts, begin, behind_char, enter, kind_of, stay}
use Rattle.typst_lexer.specs.Markup.{enter_content, enter_markup, is_at_sign, is_hyphen, is_in_word, is_letter_h, is_period, is_plain, is_slash, is_space_in_text, is_start, is_word, text_goes_on}
use Rattle.typst_lexer.specs.Quick.{IsQuick, Stops, is_no_word}
use Rattle.typst_lexer.specs.Runs.{leapt, longer, run, stopped}
use Rattle.typst_lexer.specs.Shared.{enter_comment}
use Rattle.typst_lexer.specs.Spaces.{is_markup}
use Rattle.typst_lexer.proofs.Ascii.{all_below, begins_is, behind_is, both, ends, has, has_not, moves, not_true, pick, skip, wordy}
use Rattle.typst_lexer.proofs.Easy.{ends_stays}
use Rattle.typst_lexer.proofs.Leaps.{leaps}
use Rattle.typst_lexer.proofs.MachineLaws.{begin_accepts}
use Rattle.typst_lexer.proofs.Runs.{joined_run, run_at_end, run_first, run_stop}
use Rattle.typst_lexer.proofs.Signs.{code_name, markup_text}
use Rattle.typst_lexer.proofs.Steps.{and_false}
use Rattle.typst_lexer.proofs.TextRuns.{text_within}
use Rattle.typst_lexer.proofs.WhiteRuns.{at, enters_white}

pub low_from : (b : ℕ) → nat_lt b 128 ≡ true → b < 128
low_from b h = grind (arith, nat_tests)

pub low_to : (b : ℕ) → b < 128 → nat_lt b 128 ≡ true
low_to b h = grind (arith, nat_tests)

no_middle : (b : ℕ) → b < 128 → goes_on b ≡ false
no_middle b low = has_not (λ c. nat_lt c 128) goes_on b low (grind (arith, nat_tests)) refl

-- a token ends before a byte that ends it
pub before_byte : (p : Place) (b : ℕ) (bs : List ℕ) → ends_at p b ≡ true → Stops p (b ∷ bs)
before_byte p b bs is k some = ends_stays p k b (take 9 bs) is

pub byte_stops : (p : Place) (bytes : List ℕ) → ends_at p (slice_index bytes 0) ≡ true → Stops p bytes
byte_stops p [] e k some = absurd (omega (arith, some))
byte_stops p (b ∷ bs) e k some = before_byte p b bs e k some

pub name_stops : (p : Place) (bytes : List ℕ) → ((b : ℕ) → ends_before p b ≡ not (is_name b)) → slice_index bytes 0 < 128 → not (is_name (slice_index bytes 0)) ≡ true
    → Stops p bytes
name_stops p bytes is below e = byte_stops p bytes (ap (λ (v : Bool). v && ends_before p (slice_index bytes 0)) (low_to (slice_index bytes 0) below) ∙ is (slice_index bytes 0) ∙ e)

pub graphic_ends : (p : Place) (b : ℕ) → is_ascii_graphic b ≡ true → all_below (λ c. not (is_ascii_graphic c) || ends_at p c) 128 ≡ true → ends_at p b ≡ true
graphic_ends p b h ok = has is_ascii_graphic (ends_at p) b (low b h) h ok
  where
    low : (b : ℕ) → is_ascii_graphic b ≡ true → b < 128
    low b h = grind (arith, nat_tests)

-- a token whose first byte is one of ASCII but no dot begins in this state
pub begins_at : (m : Mode) (k : Behind) (p : Place) (b : ℕ) (bs : List ℕ) → b < 128 → (b == 46) ≡ false → enter m k (take 10 (b ∷ bs)) ≡ p
    → begin m k (take 10 (b ∷ bs)) ≡ at p (behind_byte b)
begins_at m k p b bs low dot is =
    ap (λ (v : Bool). (let r : Reading = record { place = enter m k (take 10 (b ∷ bs)); behind = if v then k else behind_char k (b ∷ take 9 bs) } in r)) (no_middle b low)
    ∙ ap (λ (h : Behind). at (enter m k (take 10 (b ∷ bs))) h) (behind_is b (take 9 bs) low k dot)
    ∙ ap (λ (q : Place). at q (behind_byte b)) is

-- the run ends where the token ends
leapt_ends : (p : Place) (xs : List ℕ) (n : ℕ) → n ≤ length xs → Stops p (drop n xs)
    → (let r : Run = leapt n p xs in joined_run stay accepts r (run stay accepts 10 r.last (drop r.passed xs)) ≡ r)
leapt_ends p xs n within stops = elim (cases_lt n (length xs)) as (λ _. (let r : Run = leapt n p xs in joined_run stay accepts r (run stay accepts 10 r.last (drop r.passed xs)) ≡ r)) [
  | inl less ↦
      let r : Run = leapt n p xs in
      run_stop stay accepts 10 r r.last xs less (stops r.last.behind (omega (arith, less, length-drop n xs))) (λ _. (refl, refl))
  | inr ge ↦ let r : Run = leapt n p xs in run_at_end stay accepts 10 r r.last xs (omega (arith, ge)) (λ _. (refl, refl))
]

-- a run over bytes that the token goes over without a change, up to its end
pub found : (m : Mode) (k : Behind) (p : Place) (b : ℕ) (bs : List ℕ) (n : ℕ) → b < 128 → (b == 46) ≡ false → enter m k (take 10 (b ∷ bs)) ≡ p
    → n ≤ easy_len p bs → n ≤ length bs → Stops p (drop n bs)
    → run_of m k (b ∷ bs) ≡ leapt (suc n) p (b ∷ bs)
found m k p b bs n low dot is easy within stops =
    let xs : List ℕ = b ∷ bs in
    let w : List ℕ = take 10 xs in
    let s : Reading = at p (behind_byte b) in
    let q : Run = record { passed = 1; len = 1; last = s } in
    let begun : joined_run stay accepts q (run stay accepts 10 s (drop 1 xs)) ≡ run_of m k xs =
    ap (λ (t : Reading). joined_run stay accepts (record { passed = 1; len = 1; last = t }) (run stay accepts 10 t (drop 1 xs))) (sym (begins_at m k p b bs low dot is))
    ∙ run_first stay accepts 10 (begin m k) xs (omega arith) (begin_accepts m k w) in
    sym begun ∙ sym (leaped n easy within) ∙ leapt_ends p xs (suc n) (omega (arith, within)) stops
  where
    leaped : (n : ℕ) → n ≤ easy_len p bs → n ≤ length bs
        → (let r : Run = leapt (suc n) p (b ∷ bs) in joined_run stay accepts r (run stay accepts 10 r.last (drop r.passed (b ∷ bs))))
        ≡ joined_run stay accepts (record { passed = 1; len = 1; last = at p (behind_byte b) }) (run stay accepts 10 (at p (behind_byte b)) bs)
    leaped zero easy within = refl
    leaped (suc n) easy within =
        let same : suc (suc n) ≡ 1 + suc n = omega arith in
        leaps p (behind_byte b) (b ∷ bs) (record { passed = 1; len = 1; last = at p (behind_byte b) }) (leapt (suc (suc n)) p (b ∷ bs)) (suc n)
        (omega arith) easy (omega (arith, within)) (λ _. (refl, refl)) (ap (λ (j : ℕ). leapt j p (b ∷ bs)) same)

-- what is left behind so many bytes, as the code cuts it off
abbrev pub cut : ℕ → List ℕ → List ℕ
cut n bytes = take (length bytes - n) (drop n bytes)

-- a token whose last n bytes go on without a change
pub token : (m : Mode) (k : Behind) (p : Place) (b : ℕ) (bs : List ℕ) (n : ℕ) → b < 128 → (b == 46) ≡ false → enter m k (take 10 (b ∷ bs)) ≡ p
    → n ≤ easy_len p bs → n ≤ length bs → Stops p (drop n bs) → IsQuick m k (b ∷ bs) (record { kind = kind_of p (take (suc n) (b ∷ bs)); len = suc n })
token m k p b bs n low dot is easy within stops some =
    ap (λ (r : Run). (let t : FirstToken = record { kind = kind_of r.last.place (take r.len (b ∷ bs)); len = r.len; look = r.passed + 10; behind = r.last.behind } in t))
    (sym (found m k p b bs n low dot is easy within stops))

-- the same of n bytes, as the code finds them
long : (m : Mode) (k : Behind) (p : Place) (b : ℕ) (bs : List ℕ) (n j : ℕ) (kind : TokenKind) → b < 128 → (b == 46) ≡ false → enter m k (b ∷ take 9 bs) ≡ p
    → n ≡ suc j → j ≤ easy_len p bs → j ≤ length bs → Stops p (cut n (b ∷ bs)) → kind ≡ kind_of p (take n (b ∷ bs)) → IsQuick m k (b ∷ bs) (record { kind = kind; len = n })
long m k p b bs n j kind low dot is more easy within stops of =
    subst (λ kind. IsQuick m k (b ∷ bs) (record { kind = kind; len = n })) (sym of)
    (subst (λ i. Stops p (drop i (b ∷ bs)) → IsQuick m k (b ∷ bs) (record { kind = kind_of p (take i (b ∷ bs)); len = i })) (sym more) (token m k p b bs j low dot is easy within)
    (subst (Stops p) (take_rest (b ∷ bs) n) stops))

or_left : (u v : Bool) → u ≡ true → (u || v) ≡ true
or_left true v e = refl
or_left false v e = cc

-- text ends before a blank that no letter and no digit follow
blank_ends : (c : ℕ) (cs : List ℕ) → is_no_word c ≡ true → text_goes_on (32 ∷ c ∷ cs) ≡ false
unfolding in_ranges alphabetic_ranges is_alphabetic numeric_ranges is_numeric
blank_ends c cs h =
    let low = low_from c (both _ _ h).0 in
    let no_word : begins_char is_alphanumeric (c ∷ cs) ≡ false = begins_is c cs low is_alphanumeric ∙ has_not is_no_word is_alphanumeric c low h refl in
    let w : List ℕ = 32 ∷ c ∷ cs in
    ap (λ (v : Bool). v || is_space_in_text w || is_slash w || is_hyphen w || is_period w || is_letter_h w || is_at_sign w) (begins_is 32 (c ∷ cs) (omega arith) is_plain)
    ∙ ap (λ (v : Bool). v || is_slash w || is_hyphen w || is_period w || is_letter_h w || is_at_sign w) no_word

pub text_stops : (bytes : List ℕ) → slice_index bytes 0 ≡ 32 → 2 ≤ length bytes → is_no_word (slice_index bytes 1) ≡ true → Stops place.Text bytes
text_stops [] is two e = absurd (omega (arith, two))
text_stops (b ∷ []) is two e = absurd (omega (arith, two))
text_stops (b ∷ c ∷ cs) is two e = subst (λ n. Stops place.Text (n ∷ c ∷ cs)) (sym is) (λ k some. ends 32 (c ∷ take 8 cs) (omega arith) place.Text k (skip _ _ _ (blank_ends c (take 8 cs) e)))

pub sign_stops : (bytes : List ℕ) → is_text_end (slice_index bytes 0) ≡ true → Stops place.Text bytes
sign_stops bytes e = byte_stops place.Text bytes (low (slice_index bytes 0) e)
  where
    low : (b : ℕ) → is_text_end b ≡ true → ends_at place.Text b ≡ true
    low b h = has is_text_end (ends_at place.Text) b (grind (arith, nat_tests)) h refl

letter_low : (b : ℕ) → is_letter b ≡ true → b < 128
letter_low b h = grind (arith, nat_tests)

pub words_found : (k : Behind) (bytes : List ℕ) (n : ℕ) → begins is_letter bytes ≡ true → n ≡ text_len bytes → Stops place.Text (cut n bytes)
    → IsQuick modes.Markup k bytes (record { kind = kinds.Text; len = n })
words_found k [] n e is stops = cc
words_found k (b ∷ bs) n letter is stops =
    let low = letter_low b letter in
    long modes.Markup k place.Text b bs n (text_len bs) kinds.Text low (has_not is_letter (λ c. c == 46) b low letter refl) (markup_text k (b ∷ take 9 bs) letter)
    (is ∙ pick (goes_over_text (b ∷ bs)) (suc (text_len bs)) 0 (or_left _ _ (or_left _ _ (or_left (is_letter b) _ letter)))) (omega arith) (text_within bs) stops refl

-- Signs.
pub and_left : (u v : Bool) → u ≡ false → (u && v) ≡ false
and_left true v e = cc
and_left false v e = refl

pub sign_found : (m : Mode) (k : Behind) (p : Place) (b : ℕ) (bs : List ℕ) → b < 128 → (b == 46) ≡ false → enter m k (take 10 (b ∷ bs)) ≡ p → Stops p bs
    → IsQuick m k (b ∷ bs) (record { kind = kind_of p (b ∷ []); len = 1 })
sign_found m k p b bs low dot is stops = token m k p b bs 0 low dot is (omega arith) (omega arith) stops

abbrev IsSign : Behind → ℕ → ℕ → TokenKind → Type 0
IsSign k b c kind = (rest : List ℕ) → IsQuick modes.Markup k (b ∷ c ∷ rest) (record { kind = kind; len = 1 })

-- a byte of ASCII but white space and the dot
abbrev is_mark : ℕ → Bool
is_mark n = nat_lt n 128 && not (n == 46) && not (is_newline n) && not (is_blank n)

abbrev Enters : Behind → List ℕ → TokenKind → Type 0
Enters k w kind = (begins_with (codes "#!") w ≡ false) × (enter_comment w ≡ None) × (enter_content k w ≡ place.Rest kind 0)

pub mark_found : (k : Behind) (b c n : ℕ) (kind : TokenKind) → b ≡ n → is_mark n ≡ true → c < 128 → ((cs : List ℕ) → Enters k (n ∷ c ∷ cs) kind) → IsSign k b c kind
mark_found k b c n kind is ok next enters rest =
    let blank = both (nat_lt n 128 && not (n == 46) && not (is_newline n)) _ ok in
    let line = both (nat_lt n 128 && not (n == 46)) _ blank.0 in
    let dot = both (nat_lt n 128) _ line.0 in
    let low = low_from n dot.0 in
    let w : List ℕ = n ∷ c ∷ take 8 rest in
    let e = enters (take 8 rest) in
    subst (λ n. IsQuick modes.Markup k (n ∷ c ∷ rest) (record { kind = kind; len = 1 })) (sym is)
    (sign_found modes.Markup k (place.Rest kind 0) n (c ∷ rest) low (not_true _ dot.1)
    (skip _ _ _ (and_left _ _ (begins_is n (c ∷ take 8 rest) low is_newline ∙ not_true _ line.1)) ∙ skip _ _ _ (begins_is n (c ∷ take 8 rest) low is_blank ∙ not_true _ blank.1)
    ∙ skip _ _ _ (and_false (is_start k) _ e.0) ∙ ap (λ (o : Option Place). elim o as (λ _. Place) [ None ↦ enter_content k w | Some p ↦ p ]) e.1 ∙ e.2)
    (before_byte (place.Rest kind 0) c rest (ap (λ (v : Bool). v && true) (low_to c next))))

-- a byte of ASCII but this one
abbrev is_but : ℕ → ℕ → Bool
is_but n c = nat_lt c 128 && not (c == n)

but : (n c : ℕ) → c < 128 → c ≢ n → is_but n c ≡ true
but n c next other = grind (arith, nat_tests)

pub hash_found : (k : Behind) (b c : ℕ) → b ≡ 35 → c < 128 → c ≢ 33 → IsSign k b c kinds.Hash
hash_found k b c is next other =
    mark_found k b c 35 kinds.Hash is refl next (λ cs. (has_not (is_but 33) (λ c. begins_with (codes "#!") (35 ∷ c ∷ cs)) c next (but 33 c next other) refl, refl, refl))

not_in_word : (k : Behind) (b c : ℕ) (cs : List ℕ) → c < 128 → (is_word k && is_ascii_alphanumeric c) ≡ false → not (is_in_word k (b ∷ c ∷ cs)) ≡ true
not_in_word k b c cs low e = ap not (ap (λ (v : Bool). is_word k && v) (begins_is c cs low is_wordy ∙ wordy c cs low) ∙ e)

pub star_found : (k : Behind) (b c : ℕ) → b ≡ 42 → c < 128 → c ≢ 47 → (is_word k && is_ascii_alphanumeric c) ≡ false → IsSign k b c kinds.Star
star_found k b c is next other apart =
    mark_found k b c 42 kinds.Star is refl next
    (λ cs. (refl, skip _ _ _ (has_not (is_but 47) (λ c. begins_with (codes "*/") (42 ∷ c ∷ cs)) c next (but 47 c next other) refl), pick _ _ _ (not_in_word k 42 c cs next apart)))

pub underscore_found : (k : Behind) (b c : ℕ) → b ≡ 95 → c < 128 → (is_word k && is_ascii_alphanumeric c) ≡ false → IsSign k b c kinds.Underscore
underscore_found k b c is next apart = mark_found k b c 95 kinds.Underscore is refl next (λ cs. (refl, refl, pick _ _ _ (not_in_word k 95 c cs next apart)))

-- a marker before a blank
at_blank : (cs : List ℕ) → is_at_blank (32 ∷ cs) ≡ true
at_blank cs = or_left _ _ (or_left _ _ (begins_is 32 cs (omega arith) is_whitespace))

pub marker_found : (k : Behind) (b c n : ℕ) (kind : TokenKind) → b ≡ n → is_mark n ≡ true → c ≡ 32 → ((cs : List ℕ) → is_at_blank (32 ∷ cs) ≡ true → Enters k (n ∷ 32 ∷ cs) kind) → IsSign k b c kind
marker_found k b c n kind is ok blank enters = subst (λ c. IsSign k b c kind) (sym blank) (mark_found k b 32 n kind is ok (omega arith) (λ cs. enters cs (at_blank cs)))

no_number : (cs : List ℕ) → begins_char is_numeric (32 ∷ cs) ≡ false
unfolding in_ranges numeric_ranges is_numeric
no_number cs = begins_is 32 cs (omega arith) is_numeric

pub list_found : (k : Behind) (b c : ℕ) → b ≡ 45 → c ≡ 32 → IsSign k b c kinds.ListMarker
list_found k b c is blank =
    marker_found k b c 45 kinds.ListMarker is refl blank
    (λ cs e. (refl, refl, skip _ _ _ (ap (λ (v : Bool). nat_lt 0 (if v then 1 else 0)) (no_number cs)) ∙ pick _ _ _ e))

-- White space.
gap_found : (k : Behind) (b c n : ℕ) (p : Place) → b ≡ n → n < 128 → (n == 46) ≡ false → is_ascii_graphic c ≡ true → ((cs : List ℕ) → enter_markup k (n ∷ c ∷ cs) ≡ p)
    → all_below (λ c. not (is_ascii_graphic c) || ends_at p c) 128 ≡ true → kind_of p (n ∷ []) ≡ kinds.Space → IsSign k b c kinds.Space
gap_found k b c n p is low dot graphic enters ending of rest =
    subst (λ n. IsQuick modes.Markup k (n ∷ c ∷ rest) (record { kind = kinds.Space; len = 1 })) (sym is)
    (subst (λ kind. IsQuick modes.Markup k (n ∷ c ∷ rest) (record { kind = kind; len = 1 })) of
    (sign_found modes.Markup k p n (c ∷ rest) low dot (enters (take 8 rest)) (before_byte p c rest (graphic_ends p c graphic ending))))

pub blank_found : (k : Behind) (b c : ℕ) → b ≡ 32 → is_ascii_graphic c ≡ true → IsSign k b c kinds.Space
blank_found k b c is graphic =
    gap_found k b c 32 place.Space is (omega arith) refl graphic
    (λ cs. skip _ _ _ (and_left _ _ (begins_is 32 (c ∷ cs) (omega arith) is_newline)) ∙ pick _ _ _ (begins_is 32 (c ∷ cs) (omega arith) is_blank)) refl refl

pub line_found : (k : Behind) (b c : ℕ) → b ≡ 10 → is_ascii_graphic c ≡ true → IsSign k b c kinds.Space
line_found k b c is graphic =
    gap_found k b c 10 place.Line is (omega arith) refl graphic (λ cs. pick _ _ _ (ap (λ (v : Bool). v && true) (begins_is 10 (c ∷ cs) (omega arith) is_newline))) refl refl

-- two line feeds
abbrev went : Reading → Option Reading → List ℕ → Run
went s o bs = elim o as (λ _. Run) [ None ↦ stopped s | Some t ↦ longer accepts s (run stay accepts 10 t bs) ]

abbrev first_of : List ℕ → Run → FirstToken
first_of text r = record { kind = kind_of r.last.place (take (suc r.len) text); len = suc r.len; look = suc r.passed + 10; behind = r.last.behind }

two_lines : (k : Behind) (c : ℕ) (cs : List ℕ) → is_ascii_graphic c ≡ true → IsQuick modes.Markup k (10 ∷ 10 ∷ c ∷ cs) (record { kind = kinds.Parbreak; len = 2 })
two_lines k c cs graphic some =
    let line : (bs : List ℕ) → begins_char is_newline (10 ∷ bs) ≡ true = λ bs. begins_is 10 bs (omega arith) is_newline in
    let text : List ℕ = 10 ∷ 10 ∷ c ∷ cs in
    let s : Reading = at place.Line (behind_byte 10) in
    let t : Reading = at place.Parbreak (behind_byte 10) in
    sym (
    ap (λ (s : Reading). first_of text (went s (stay s (10 ∷ c ∷ take 8 cs)) (c ∷ cs)))
    (begins_at modes.Markup k place.Line 10 (10 ∷ c ∷ cs) (omega arith) refl (pick _ _ _ (ap (λ (v : Bool). v && true) (line (10 ∷ c ∷ take 7 cs)))))
    ∙ ap (λ (o : Option Reading). first_of text (went s o (c ∷ cs)))
    (moves 10 (c ∷ take 8 cs) (omega arith) place.Line place.Parbreak (behind_byte 10) (pick _ _ _ (ap (λ (v : Bool). v && true) (line (c ∷ take 8 cs)))) refl)
    ∙ ap (λ (o : Option Reading). first_of text (longer accepts s (went t o cs)))
    (before_byte place.Parbreak c cs (graphic_ends place.Parbreak c graphic refl) (behind_byte 10) (omega arith))
    )

pub parbreak_found : (k : Behind) (bytes : List ℕ) → 3 ≤ length bytes → slice_index bytes 0 ≡ 10 → slice_index bytes 1 ≡ 10 → is_ascii_graphic (slice_index bytes 2) ≡ true
    → IsQuick modes.Markup k bytes (record { kind = kinds.Parbreak; len = 2 })
parbreak_found k [] three a b c = absurd (omega (arith, three))
parbreak_found k (x ∷ []) three a b c = absurd (omega (arith, three))
parbreak_found k (x ∷ y ∷ []) three a b c = absurd (omega (arith, three))
parbreak_found k (x ∷ y ∷ z ∷ zs) three a b c =
    subst (λ x. IsQuick modes.Markup k (x ∷ y ∷ z ∷ zs) (record { kind = kinds.Parbreak; len = 2 })) (sym a)
    (subst (λ y. IsQuick modes.Markup k (10 ∷ y ∷ z ∷ zs) (record { kind = kinds.Parbreak; len = 2 })) (sym b) (two_lines k z zs c))

-- what is quickly found of the first two bytes
pub signs_found : (k : Behind) (bytes : List ℕ) (kind : TokenKind) → 2 ≤ length bytes → IsSign k (slice_index bytes 0) (slice_index bytes 1) kind
    → IsQuick modes.Markup k bytes (record { kind = kind; len = 1 })
signs_found k [] kind two is = absurd (omega (arith, two))
signs_found k (b ∷ []) kind two is = absurd (omega (arith, two))
signs_found k (b ∷ c ∷ cs) kind two is = is cs

-- Runs of bytes of a class.
run_within : (f : ℕ → Bool) (bytes : List ℕ) → length (take_while f bytes) ≤ length bytes
run_within f bytes = omega (arith, length-prefix_len f bytes, prefix_len-le-length f bytes)

pub run_more : (f : ℕ → Bool) (b : ℕ) (bs : List ℕ) → f b ≡ true → length (take_while f (b ∷ bs)) ≡ suc (length (take_while f bs))
run_more f b bs e = length-prefix_len f (b ∷ bs) ∙ prefix_len-drop_yes f (b ∷ bs) 0 0 (omega arith) e ∙ omega (arith, length-prefix_len f bs)

pub run_none : (f : ℕ → Bool) (b : ℕ) (bs : List ℕ) → f b ≡ false → length (take_while f (b ∷ bs)) ≡ 0
run_none f b bs e = length-prefix_len f (b ∷ bs) ∙ prefix_len-drop_no f (b ∷ bs) 0 0 (omega arith) e

white_low : (b : ℕ) → is_white b ≡ true → b < 128
white_low b h = grind (arith, nat_tests)

pub spaces_found : (m : Mode) (k : Behind) (bytes : List ℕ) (n : ℕ) → is_markup m ≡ false → n ≡ length (take_while is_white bytes) → Stops place.Blank (cut n bytes)
    → IsQuick m k bytes (record { kind = kinds.Space; len = n })
spaces_found m k [] n other is stops = λ some. absurd (omega (arith, is, some))
spaces_found m k (b ∷ bs) n other is stops = by_white (is_white b) refl
  where
    by_white : (v : Bool) → is_white b ≡ v → IsQuick m k (b ∷ bs) (record { kind = kinds.Space; len = n })
    by_white true white =
        let low = white_low b white in
        let blank : begins_char is_whitespace (b ∷ take 9 bs) ≡ true = begins_is b (take 9 bs) low is_whitespace ∙ has is_white is_whitespace b low white refl in
        long m k place.Blank b bs n (length (take_while is_white bs)) kinds.Space low (has_not is_white (λ c. c == 46) b low white refl)
        (enters_white m k (b ∷ take 9 bs) other blank) (is ∙ run_more is_white b bs white) (omega arith) (run_within is_white bs) stops refl
    by_white false white = λ some. absurd (omega (arith, some, is, run_none is_white b bs white))

-- Names.
name_low : (b : ℕ) → is_name_start b ≡ true → b < 128
name_low b h = grind (arith, nat_tests)

pub name_found : (k : Behind) (p : Place) (bytes : List ℕ) (n : ℕ) (kind : TokenKind) → (if is_field k then place.FieldName else place.Name) ≡ p
    → ((bs : List ℕ) → easy_len p bs ≡ length (take_while is_name bs)) → begins is_name_start bytes ≡ true → n ≡ length (take_while is_name bytes)
    → Stops p (cut n bytes) → kind ≡ kind_of p (take n bytes) → IsQuick modes.Code k bytes (record { kind = kind; len = n })
name_found k p [] n kind inside easy start is stops of = cc
name_found k p (b ∷ bs) n kind inside easy start is stops of =
    let low = name_low b start in
    long modes.Code k p b bs n (length (take_while is_name bs)) kind low (has_not is_name_start (λ c. c == 46) b low start refl) (code_name k (b ∷ take 9 bs) start ∙ inside)
    (is ∙ run_more is_name b bs (has is_name_start is_name b low start refl)) (omega (arith, easy bs)) (run_within is_name bs) stops of

-- Brackets of code.
pub bracket_found : (m : Mode) (k : Behind) (bytes : List ℕ) (kind o : TokenKind) → ((w : List ℕ) → begins is_bracket w ≡ true → enter m k w ≡ enter_bracket o w)
    → 1 ≤ length bytes → is_bracket (slice_index bytes 0) ≡ true → ((o : TokenKind) (rest : List ℕ) → enter_bracket o (slice_index bytes 0 ∷ rest) ≡ place.Rest kind 0)
    → Stops (place.Rest kind 0) (cut 1 bytes) → IsQuick m k bytes (record { kind = kind; len = 1 })
bracket_found m k [] kind o enters some is alone stops = absurd (omega (arith, some))
bracket_found m k (b ∷ bs) kind o enters some is alone stops =
    let low = bracket_low b is in
    long m k (place.Rest kind 0) b bs 1 0 kind low (has_not is_bracket (λ c. c == 46) b low is refl) (enters (b ∷ take 9 bs) is ∙ alone o (take 9 bs)) refl (omega arith) (omega arith)
    stops refl
  where
    bracket_low : (b : ℕ) → is_bracket b ≡ true → b < 128
    bracket_low b h = grind (arith, nat_tests)
