-- A line comment ends before the first newline.
use Rattle.std.proofs.Common.{◌≡◌, ℕ, suc, ◌+◌, Bool, true, false, List, [], ◌∷◌, take, refl, ap, arith}
use Rattle.std.specs.Prelude.{◌&&◌, not, Option, Some, None, if◌then◌else◌}
use Rattle.typst_lexer.specs.declared.mode.Mode.{Mode}
use Rattle.typst_lexer.specs.declared.place.Behind.{Behind}
use Rattle.typst_lexer.specs.declared.place.Place.{Place}
use Rattle.typst_lexer.specs.declared.place.Place.TheVariants as place
use Rattle.typst_lexer.specs.declared.token.TokenKind.TheVariants as kinds
use Rattle.typst_lexer.specs.Before.{before, is_at_newline}
use Rattle.typst_lexer.specs.Characters.{goes_on}
use Rattle.typst_lexer.specs.Classes.{begins_char, is_newline}
use Rattle.typst_lexer.specs.FirstToken.{first}
use Rattle.typst_lexer.specs.Machine.{stay_inside}
use Rattle.typst_lexer.proofs.Steps.{EachRun, IsRun, ended, first_kind, first_len, from, line_enters, slash_begins, step}
use Rattle.typst_lexer.proofs.WhiteRuns.{at, char_window}

-- g: the byte continues a character; v: it begins a newline
abbrev next_of : Bool → Bool → Option Place
next_of g v = if g then Some place.LineComment else (if v then None else Some place.LineComment)

line_by : (g v : Bool) (b : ℕ) (bs : List ℕ) (k : Behind)
    → stay_inside (at place.LineComment k) (take 10 (b ∷ bs)) ≡ next_of g v
    → EachRun (before is_at_newline bs) place.LineComment place.LineComment bs
    → IsRun (if not g && v then 0 else suc (before is_at_newline bs)) place.LineComment (from place.LineComment k (b ∷ bs))
line_by true v b bs k e each = step place.LineComment place.LineComment place.LineComment (before is_at_newline bs) b bs k e refl each
line_by false true b bs k e each = ended place.LineComment b bs k e
line_by false false b bs k e each = step place.LineComment place.LineComment place.LineComment (before is_at_newline bs) b bs k e refl each

line_run : (t : List ℕ) → EachRun (before is_at_newline t) place.LineComment place.LineComment t
line_run [] k = (refl, refl)
line_run (b ∷ bs) k =
    line_by (goes_on b) (begins_char is_newline (b ∷ bs)) b bs k
    (ap (next_of (goes_on b)) (char_window is_newline (b ∷ bs))) (λ h. line_run bs h)

second : (rest : List ℕ) → EachRun (suc (before is_at_newline rest)) place.LineComment place.LineComment (47 ∷ rest)
second rest k =
    step place.LineComment place.LineComment place.LineComment (before is_at_newline rest) 47 rest k
    (ap (next_of false) (slash_begins is_newline (take 9 rest))) refl (λ h. line_run rest h)

pub line_ends : (how : Mode) (k : Behind) (rest : List ℕ)
    → ((first how k (47 ∷ 47 ∷ rest)).kind ≡ kinds.LineComment) × ((first how k (47 ∷ 47 ∷ rest)).len ≡ 2 + before is_at_newline rest)
line_ends how k rest =
    let inside = line_enters how k (take 8 rest) in
    let len = first_len how k 47 (47 ∷ rest) place.LineComment place.LineComment (suc (before is_at_newline rest)) inside (second rest) in (
      first_kind how k 47 (47 ∷ rest) place.LineComment place.LineComment (suc (before is_at_newline rest)) inside (second rest),
      omega (arith, len),
    )
