-- White space is the longest run, and in markup its newlines are counted up to two.
use Rattle.std.proofs.Common.{◌≡◌, ℕ, suc, zero, Bool, true, false, List, [], ◌∷◌, take, refl, sym, ap, ◌∙◌, arith}
use Rattle.std.specs.Prelude.{◌||◌, ◌&&◌, ◌==◌, not, nat_le, codes, Option, Some, None, if◌then◌else◌}
use Rattle.std.specs.Char.{is_whitespace}
use Rattle.std.specs.Option.{option_map_or}
use Rattle.std.proofs.lemmas.Bool.Decides.{nat_tests}
use Rattle.typst_lexer.specs.declared.head.Run.{Run}
use Rattle.typst_lexer.specs.declared.mode.Mode.{Mode}
use Rattle.typst_lexer.specs.declared.mode.Mode.TheVariants as modes
use Rattle.typst_lexer.specs.declared.place.Behind.{Behind}
use Rattle.typst_lexer.specs.declared.place.Place.{Place}
use Rattle.typst_lexer.specs.declared.place.Place.TheVariants as place
use Rattle.typst_lexer.specs.declared.place.Reading.{Reading}
use Rattle.typst_lexer.specs.declared.token.TokenKind.TheVariants as kinds
use Rattle.typst_lexer.specs.Characters.{goes_on, begins, begins_with}
use Rattle.typst_lexer.specs.Classes.{begins_char, char_of, ends_line, first_char, is_blank, is_newline}
use Rattle.typst_lexer.specs.FirstCodes.{first_code}
use Rattle.typst_lexer.specs.FirstToken.{first, run_of}
use Rattle.typst_lexer.specs.Machine.{accepts, behind_char, enter, kind_of, may_end, stay, stay_at}
use Rattle.typst_lexer.specs.Markup.{stay_space}
use Rattle.typst_lexer.specs.Runs.{longer, run, stopped}
use Rattle.typst_lexer.specs.Spaces.{is_markup, newlines, run_len}
use Rattle.typst_lexer.proofs.FirstCodes.{first_code_is}

-- the first character is among the first ten bytes
code_window : (t : List ℕ) → first_code (take 10 t) ≡ first_code t
code_window [] = refl
code_window (a ∷ []) = refl
code_window (a ∷ b ∷ []) = refl
code_window (a ∷ b ∷ c ∷ []) = refl
code_window (a ∷ b ∷ c ∷ d ∷ ds) = refl

abbrev pub as_char : Option ℕ → Option ℕ
as_char o = elim o as (λ _. Option ℕ) [ None ↦ None | Some c ↦ char_of c ]

pub char_window : (p : ℕ → Bool) (t : List ℕ) → begins_char p (take 10 t) ≡ begins_char p t
char_window p t = ap (λ (o : Option ℕ). option_map_or p (as_char o) false) (sym (first_code_is (take 10 t)) ∙ code_window t ∙ first_code_is t)

pair_window : (t : List ℕ) → begins_with (codes "\r\n") (take 10 t) ≡ begins_with (codes "\r\n") t
pair_window [] = refl
pair_window (a ∷ []) = refl
pair_window (a ∷ b ∷ bs) = refl

line_window : (t : List ℕ) → ends_line (take 10 t) ≡ ends_line t
line_window t = ap (λ (v : Bool). v && not (begins_with (codes "\r\n") (take 10 t))) (char_window is_newline t) ∙ ap (λ (v : Bool). begins_char is_newline t && not v) (pair_window t)

-- nothing begins where the text ends
pub nothing_begins : (p : ℕ → Bool) → begins_char p [] ≡ false
nothing_begins p = ap (λ (o : Option ℕ). option_map_or p (as_char o) false) (sym (first_code_is []))

never : false ≡ true → ⊥
never e = cc

if_true : (v : Bool) (x y : Place) → v ≡ true → (if v then x else y) ≡ x
if_true true x y e = refl
if_true false x y e = cc

or_true : (u v : Bool) → v ≡ true → (u || v) ≡ true
or_true true v e = refl
or_true false v e = e

-- a run that goes on with one more byte, where the rest ends in a place where a token may end
pub more_len : (s : Reading) (r : Run) (p : Place) (n : ℕ) → r.last.place ≡ p → may_end p ≡ true → r.len ≡ n → (longer accepts s r).len ≡ suc n
more_len s r p n is may len = ap (λ (v : Bool). if v then suc r.len else 0) (ap may_end is ∙ may) ∙ ap suc len

pub more_place : (s : Reading) (r : Run) (p : Place) → r.last.place ≡ p → may_end p ≡ true → (longer accepts s r).last.place ≡ p
more_place s r p is may = ap (λ (v : Bool). (let t : Reading = if v then r.last else s in t.place)) (ap may_end is ∙ may) ∙ is

abbrev pub at : Place → Behind → Reading
at p k = record { place = p; behind = k }

-- what a run makes of the rest
abbrev rest : Place → Behind → List ℕ → Run
rest p h bs = run stay accepts 10 (at p h) bs

-- what a run makes of a byte, given where the token is after it
abbrev pub went : Reading → Option Place → Behind → List ℕ → Run
went s o h bs = elim (elim o as (λ _. Option Reading) [ None ↦ None | Some now ↦ Some (at now h) ]) as (λ _. Run) [
  | None ↦ stopped s
  | Some t ↦ longer accepts s (run stay accepts 10 t bs)
]

-- white space of code and math
abbrev IsWhite : ℕ → Run → Type 0
IsWhite n r = (r.len ≡ n) × (r.last.place ≡ place.Blank)

white_by : (g v : Bool) (k h : Behind) (bs : List ℕ) → ((h : Behind) → IsWhite (run_len is_whitespace bs) (run stay accepts 10 (at place.Blank h) bs))
    → IsWhite (if g || v then suc (run_len is_whitespace bs) else 0) (went (at place.Blank k) (if g then Some place.Blank else (if v then Some place.Blank else None)) h bs)
white_by true v k h bs ih = (more_len (at place.Blank k) (rest place.Blank h bs) place.Blank (run_len is_whitespace bs) (ih h).1 refl (ih h).0, more_place (at place.Blank k) (rest place.Blank h bs) place.Blank (ih h).1 refl)
white_by false true k h bs ih = (more_len (at place.Blank k) (rest place.Blank h bs) place.Blank (run_len is_whitespace bs) (ih h).1 refl (ih h).0, more_place (at place.Blank k) (rest place.Blank h bs) place.Blank (ih h).1 refl)
white_by false false k h bs ih = (refl, refl)

white_run : (t : List ℕ) (k : Behind) → IsWhite (run_len is_whitespace t) (run stay accepts 10 (at place.Blank k) t)
white_run [] k = (refl, refl)
white_run (b ∷ bs) k =
    let w : List ℕ = take 10 (b ∷ bs) in
    let h : Behind = if goes_on b then k else behind_char k w in
    let found = white_by (goes_on b) (begins_char is_whitespace w) k h bs (λ h. white_run bs h) in
    (found.0 ∙ ap (λ (v : Bool). if goes_on b || v then suc (run_len is_whitespace bs) else 0) (char_window is_whitespace (b ∷ bs)), found.1)

pub enters_white : (how : Mode) (k : Behind) (w : List ℕ) → is_markup how ≡ false → begins_char is_whitespace w ≡ true → enter how k w ≡ place.Blank
enters_white modes.Markup k w m e = cc
enters_white modes.Math k w m e = if_true _ _ _ e
enters_white modes.Argument k w m e = if_true _ _ _ e
enters_white modes.Code k w m e = if_true _ _ _ e
enters_white modes.Operator k w m e = if_true _ _ _ e

pub white_is_longest : (how : Mode) (k : Behind) (text : List ℕ) → is_markup how ≡ false → begins_char is_whitespace text ≡ true
    → ((first how k text).kind ≡ kinds.Space) × ((first how k text).len ≡ run_len is_whitespace text)
white_is_longest how k [] m e = absurd (never (sym (nothing_begins is_whitespace) ∙ e))
white_is_longest how k (b ∷ bs) m e =
    let w : List ℕ = take 10 (b ∷ bs) in
    let h : Behind = if goes_on b then k else behind_char k w in
    let inside = enters_white how k w m (char_window is_whitespace (b ∷ bs) ∙ e) in
    let found = white_run bs h in
    let last : (run_of how k (b ∷ bs)).last.place ≡ place.Blank = ap (λ (p : Place). (run stay accepts 10 (at p h) bs).last.place) inside ∙ found.1 in (
      ap (λ (p : Place). kind_of p (take (run_of how k (b ∷ bs)).len (b ∷ bs))) last,
      ap (λ (p : Place). suc (run stay accepts 10 (at p h) bs).len) inside ∙ ap suc found.0
          ∙ sym (ap (λ (v : Bool). if v then suc (run_len is_whitespace bs) else 0) (or_true (goes_on b) (begins_char is_whitespace (b ∷ bs)) e)),
    )

-- white space of markup
abbrev place_for : ℕ → Place
place_for zero = place.Space
place_for (suc zero) = place.Line
place_for (suc (suc n)) = place.Parbreak

stays_blank : (n : ℕ) (w : List ℕ) → stay_at (place_for n) w ≡ stay_space (place_for n) (place_for (suc n)) w
stays_blank zero w = refl
stays_blank (suc zero) w = refl
stays_blank (suc (suc n)) w = refl

may_end_blank : (n : ℕ) → may_end (place_for n) ≡ true
may_end_blank zero = refl
may_end_blank (suc zero) = refl
may_end_blank (suc (suc n)) = refl

two_or_more : (n : ℕ) → nat_le 2 (suc (suc n)) ≡ true
two_or_more n = grind (arith, nat_tests)

kind_of_blank : (n : ℕ) (text : List ℕ) → kind_of (place_for n) text ≡ (if nat_le 2 n then kinds.Parbreak else kinds.Space)
kind_of_blank zero text = refl
kind_of_blank (suc zero) text = refl
kind_of_blank (suc (suc n)) text = ap (λ (v : Bool). if v then kinds.Parbreak else kinds.Space) (sym (two_or_more n))

abbrev IsBlank : ℕ → ℕ → Run → Type 0
IsBlank len n r = (r.len ≡ len) × (r.last.place ≡ place_for n)

-- a newline is a blank
pub line_is_blank : (o : Option ℕ) (v : Bool) → (option_map_or is_newline o false && v) ≡ true → option_map_or is_blank o false ≡ true
line_is_blank None v e = cc
line_is_blank (Some c) v e = or_true ((c == 32) || (c == 9)) (is_newline c) (left (is_newline c) v e)
  where
    left : (u v : Bool) → (u && v) ≡ true → u ≡ true
    left true v e = refl
    left false v e = cc

-- g: the byte continues a character; l: it ends a line; v: it begins a blank
blank_by : (g l v : Bool) (n : ℕ) (k h : Behind) (bs : List ℕ) → (l ≡ true → v ≡ true)
    → ((m : ℕ) (h : Behind) → IsBlank (run_len is_blank bs) (newlines m bs) (run stay accepts 10 (at (place_for m) h) bs))
    → IsBlank (if g || v then suc (run_len is_blank bs) else 0) (if g then newlines n bs else (if l then newlines (suc n) bs else (if v then newlines n bs else n)))
    (went (at (place_for n) k) (if g then Some (place_for n) else (if l then Some (place_for (suc n)) else (if v then Some (place_for n) else None))) h bs)
blank_by true l v n k h bs both ih = (more_len (at (place_for n) k) (rest (place_for n) h bs) (place_for (newlines n bs)) (run_len is_blank bs) (ih n h).1 (may_end_blank (newlines n bs)) (ih n h).0, more_place (at (place_for n) k) (rest (place_for n) h bs) (place_for (newlines n bs)) (ih n h).1 (may_end_blank (newlines n bs)))
blank_by false true true n k h bs both ih = (more_len (at (place_for n) k) (rest (place_for (suc n)) h bs) (place_for (newlines (suc n) bs)) (run_len is_blank bs) (ih (suc n) h).1 (may_end_blank (newlines (suc n) bs)) (ih (suc n) h).0, more_place (at (place_for n) k) (rest (place_for (suc n)) h bs) (place_for (newlines (suc n) bs)) (ih (suc n) h).1 (may_end_blank (newlines (suc n) bs)))
blank_by false true false n k h bs both ih = absurd (never (both refl))
blank_by false false true n k h bs both ih = (more_len (at (place_for n) k) (rest (place_for n) h bs) (place_for (newlines n bs)) (run_len is_blank bs) (ih n h).1 (may_end_blank (newlines n bs)) (ih n h).0, more_place (at (place_for n) k) (rest (place_for n) h bs) (place_for (newlines n bs)) (ih n h).1 (may_end_blank (newlines n bs)))
blank_by false false false n k h bs both ih = (refl, refl)

blank_run : (t : List ℕ) (n : ℕ) (k : Behind) → IsBlank (run_len is_blank t) (newlines n t) (run stay accepts 10 (at (place_for n) k) t)
blank_run [] n k = (refl, refl)
blank_run (b ∷ bs) n k =
    let w : List ℕ = take 10 (b ∷ bs) in
    let h : Behind = if goes_on b then k else behind_char k w in
    let l : Bool = ends_line (b ∷ bs) in
    let v : Bool = begins_char is_blank (b ∷ bs) in
    let found = blank_by (goes_on b) l v n k h bs (line_is_blank (first_char (b ∷ bs)) _) (λ m h. blank_run bs m h) in
    let same : run stay accepts 10 (at (place_for n) k) (b ∷ bs)
    ≡ went (at (place_for n) k) (if goes_on b then Some (place_for n) else (if l then Some (place_for (suc n)) else (if v then Some (place_for n) else None))) h bs =
    ap (λ (o : Option Place). went (at (place_for n) k) (if goes_on b then Some (place_for n) else o) h bs) (stays_blank n w)
    ∙ ap (λ (u : Bool). went (at (place_for n) k) (if goes_on b then Some (place_for n) else (if u then Some (place_for (suc n)) else (if begins_char is_blank w then Some (place_for n) else None))) h bs) (line_window (b ∷ bs))
    ∙ ap (λ (u : Bool). went (at (place_for n) k) (if goes_on b then Some (place_for n) else (if l then Some (place_for (suc n)) else (if u then Some (place_for n) else None))) h bs) (char_window is_blank (b ∷ bs)) in
    (ap (λ (r : Run). r.len) same ∙ found.0, ap (λ (r : Run). r.last.place) same ∙ found.1)

enter_by : (l v : Bool) (x : Place) → v ≡ true → (if l then place.Line else (if v then place.Space else x)) ≡ (if l then place.Line else place.Space)
enter_by true v x e = refl
enter_by false true x e = refl
enter_by false false x e = cc

pub enters_blank : (k : Behind) (t : List ℕ) → begins_char is_blank t ≡ true → enter modes.Markup k (take 10 t) ≡ (if ends_line t then place.Line else place.Space)
enters_blank k t e =
    enter_by (ends_line (take 10 t)) (begins_char is_blank (take 10 t)) _ (char_window is_blank t ∙ e)
    ∙ ap (λ (l : Bool). if l then place.Line else place.Space) (line_window t)

from_blank : (l v : Bool) (h : Behind) (bs : List ℕ) → v ≡ true
    → IsBlank (run_len is_blank bs) (if l then newlines 1 bs else (if v then newlines 0 bs else 0)) (run stay accepts 10 (at (if l then place.Line else place.Space) h) bs)
from_blank true v h bs e = blank_run bs 1 h
from_blank false true h bs e = blank_run bs 0 h
from_blank false false h bs e = cc

pub blanks_are_longest : (k : Behind) (text : List ℕ) → begins goes_on text ≡ false → begins_char is_blank text ≡ true
    → ((first modes.Markup k text).kind ≡ (if nat_le 2 (newlines 0 text) then kinds.Parbreak else kinds.Space)) × ((first modes.Markup k text).len ≡ run_len is_blank text)
blanks_are_longest k [] g e = absurd (never (sym (nothing_begins is_blank) ∙ e))
blanks_are_longest k (b ∷ bs) g e =
    let w : List ℕ = take 10 (b ∷ bs) in
    let h : Behind = if goes_on b then k else behind_char k w in
    let l : Bool = ends_line (b ∷ bs) in
    let n : ℕ = if l then newlines 1 bs else (if begins_char is_blank (b ∷ bs) then newlines 0 bs else 0) in
    let inside = enters_blank k (b ∷ bs) e in
    let found = from_blank l (begins_char is_blank (b ∷ bs)) h bs e in
    let last : (run_of modes.Markup k (b ∷ bs)).last.place ≡ place_for n = ap (λ (p : Place). (run stay accepts 10 (at p h) bs).last.place) inside ∙ found.1 in
    let counted : n ≡ newlines 0 (b ∷ bs) = ap (λ (v : Bool). if v then newlines 0 bs else n) (sym g) in (
      ap (λ (p : Place). kind_of p (take (run_of modes.Markup k (b ∷ bs)).len (b ∷ bs))) last ∙ kind_of_blank n (take (run_of modes.Markup k (b ∷ bs)).len (b ∷ bs))
          ∙ ap (λ (m : ℕ). if nat_le 2 m then kinds.Parbreak else kinds.Space) counted,
      ap (λ (p : Place). suc (run stay accepts 10 (at p h) bs).len) inside ∙ ap suc found.0
          ∙ sym (ap (λ (v : Bool). if v then suc (run_len is_blank bs) else 0) (or_true (goes_on b) (begins_char is_blank (b ∷ bs)) e)),
    )
