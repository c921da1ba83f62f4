-- The first place of a text that passes a test.
use Rattle.std.specs.Prelude.{ℕ, suc, ◌&&◌, not, Bool, List, [], ◌∷◌, if◌then◌else◌}
use Rattle.typst_lexer.specs.Characters.{begins, goes_on}
use Rattle.typst_lexer.specs.Classes.{begins_char, is_newline}

-- how many bytes come before the first place whose rest passes the test, or all bytes if there is no such place
abbrev pub before : (List ℕ → Bool) → List ℕ → ℕ
before test [] = 0
before test (b ∷ bs) = if test (b ∷ bs) then 0 else suc (before test bs)

-- a newline begins here
abbrev pub is_at_newline : List ℕ → Bool
is_at_newline text = not (begins goes_on text) && begins_char is_newline text
