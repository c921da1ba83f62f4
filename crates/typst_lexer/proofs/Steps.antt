-- Runs step by step: where a token goes on, where it ends, and what that makes of the first token.
use Rattle.std.proofs.Common.{◌≡◌, ℕ, suc, Bool, true, false, List, ◌∷◌, take, refl, sym, ap, ◌∙◌}
use Rattle.std.specs.Prelude.{◌&&◌, codes, Option, Some, None, if◌then◌else◌}
use Rattle.std.specs.Char.{is_whitespace}
use Rattle.std.specs.Option.{option_map_or}
use Rattle.typst_lexer.specs.declared.head.Run.{Run}
use Rattle.typst_lexer.specs.declared.mode.Mode.{Mode}
use Rattle.typst_lexer.specs.declared.mode.Mode.TheVariants as modes
use Rattle.typst_lexer.specs.declared.place.Behind.{Behind}
use Rattle.typst_lexer.specs.declared.place.Place.{Place}
use Rattle.typst_lexer.specs.declared.place.Place.TheVariants as place
use Rattle.typst_lexer.specs.Characters.{goes_on, begins_with}
use Rattle.typst_lexer.specs.Classes.{begins_char, is_blank, is_newline}
use Rattle.typst_lexer.specs.FirstToken.{first, run_of}
use Rattle.typst_lexer.specs.Machine.{accepts, behind_char, enter, kind_of, may_end, stay, stay_inside}
use Rattle.typst_lexer.specs.Markup.{is_start}
use Rattle.typst_lexer.specs.Runs.{run}
use Rattle.typst_lexer.proofs.FirstCodes.{first_code_is}
use Rattle.typst_lexer.proofs.WhiteRuns.{as_char, at, more_len, more_place, went}

-- a run from a place on
abbrev pub from : Place → Behind → List ℕ → Run
from p k bs = run stay accepts 10 (at p k) bs

-- a run accepts n bytes and ends inside of this
abbrev pub IsRun : ℕ → Place → Run → Type 0
IsRun n end r = (r.len ≡ n) × (r.last.place ≡ end)

abbrev pub EachRun : ℕ → Place → Place → List ℕ → Type 0
EachRun n end p bs = (h : Behind) → IsRun n end (from p h bs)

-- one byte more
pub step : (p q end : Place) (n b : ℕ) (bs : List ℕ) (k : Behind)
    → stay_inside (at p k) (take 10 (b ∷ bs)) ≡ Some q → may_end end ≡ true → EachRun n end q bs → IsRun (suc n) end (from p k (b ∷ bs))
step p q end n b bs k e may each =
    let w : List ℕ = take 10 (b ∷ bs) in
    let h : Behind = if goes_on b then k else behind_char k w in
    let found = each h in (
      ap (λ (o : Option Place). (went (at p k) o h bs).len) e ∙ more_len (at p k) (from q h bs) end n found.1 may found.0,
      ap (λ (o : Option Place). (went (at p k) o h bs).last.place) e ∙ more_place (at p k) (from q h bs) end found.1 may,
    )

-- the token ends before the byte
pub ended : (p : Place) (b : ℕ) (bs : List ℕ) (k : Behind) → stay_inside (at p k) (take 10 (b ∷ bs)) ≡ None → IsRun 0 p (from p k (b ∷ bs))
ended p b bs k e =
    let w : List ℕ = take 10 (b ∷ bs) in
    let h : Behind = if goes_on b then k else behind_char k w in
    (ap (λ (o : Option Place). (went (at p k) o h bs).len) e, ap (λ (o : Option Place). (went (at p k) o h bs).last.place) e)

-- the first token of a text, by the place in which it begins, and a run from there
pub first_len : (how : Mode) (k : Behind) (b : ℕ) (bs : List ℕ) (p end : Place) (n : ℕ)
    → enter how k (take 10 (b ∷ bs)) ≡ p → EachRun n end p bs → (first how k (b ∷ bs)).len ≡ suc n
first_len how k b bs p end n inside each =
    let h : Behind = if goes_on b then k else behind_char k (take 10 (b ∷ bs)) in
    ap (λ (p : Place). suc (from p h bs).len) inside ∙ ap suc (each h).0

pub first_kind : (how : Mode) (k : Behind) (b : ℕ) (bs : List ℕ) (p end : Place) (n : ℕ)
    → enter how k (take 10 (b ∷ bs)) ≡ p → EachRun n end p bs → (first how k (b ∷ bs)).kind ≡ kind_of end (take (first how k (b ∷ bs)).len (b ∷ bs))
first_kind how k b bs p end n inside each =
    let h : Behind = if goes_on b then k else behind_char k (take 10 (b ∷ bs)) in
    ap (λ (p : Place). kind_of p (take (run_of how k (b ∷ bs)).len (b ∷ bs)))
    (ap (λ (p : Place). (from p h bs).last.place) inside ∙ (each h).1)

-- how a comment begins
abbrev slash_char : (ℕ → Bool) → Option ℕ → Bool
slash_char p o = option_map_or p (as_char o) false

pub slash_begins : (p : ℕ → Bool) (w : List ℕ) → begins_char p (47 ∷ w) ≡ p 47
slash_begins p w = ap (slash_char p) (sym (first_code_is (47 ∷ w)))

pub tick_begins : (p : ℕ → Bool) (w : List ℕ) → begins_char p (96 ∷ w) ≡ p 96
tick_begins p w = ap (slash_char p) (sym (first_code_is (96 ∷ w)))

pub and_false : (u v : Bool) → v ≡ false → (u && v) ≡ false
and_false true v e = e
and_false false v e = refl

pub if_false : (v : Bool) (x y : Place) → v ≡ false → (if v then x else y) ≡ y
if_false true x y e = cc
if_false false x y e = refl

-- no newline, no blank and no `#!`
pub markup_by : (u x v s : Bool) (p : Place) → u ≡ false → v ≡ false → s ≡ false
    → (if u && x then place.Line else (if v then place.Space else (if s then place.Shebang else p))) ≡ p
markup_by true x v s p e f g = cc
markup_by false x true s p e f g = cc
markup_by false x false true p e f g = cc
markup_by false x false false p e f g = refl

pub line_enters : (how : Mode) (k : Behind) (w : List ℕ) → enter how k (47 ∷ 47 ∷ w) ≡ place.LineComment
line_enters modes.Markup k w =
    markup_by _ _ _ _ _ (slash_begins is_newline (47 ∷ w)) (slash_begins is_blank (47 ∷ w)) (and_false (is_start k) (begins_with (codes "#!") (47 ∷ 47 ∷ w)) refl)
line_enters modes.Math k w = if_false _ _ _ (slash_begins is_whitespace (47 ∷ w))
line_enters modes.Argument k w = if_false _ _ _ (slash_begins is_whitespace (47 ∷ w))
line_enters modes.Code k w = if_false _ _ _ (slash_begins is_whitespace (47 ∷ w))
line_enters modes.Operator k w = if_false _ _ _ (slash_begins is_whitespace (47 ∷ w))

pub block_enters : (how : Mode) (k : Behind) (w : List ℕ) → enter how k (47 ∷ 42 ∷ w) ≡ place.CommentMark 1
block_enters modes.Markup k w =
    markup_by _ _ _ _ _ (slash_begins is_newline (42 ∷ w)) (slash_begins is_blank (42 ∷ w)) (and_false (is_start k) (begins_with (codes "#!") (47 ∷ 42 ∷ w)) refl)
block_enters modes.Math k w = if_false _ _ _ (slash_begins is_whitespace (42 ∷ w))
block_enters modes.Argument k w = if_false _ _ _ (slash_begins is_whitespace (42 ∷ w))
block_enters modes.Code k w = if_false _ _ _ (slash_begins is_whitespace (42 ∷ w))
block_enters modes.Operator k w = if_false _ _ _ (slash_begins is_whitespace (42 ∷ w))
