-- White space as runs of bytes, apart from the machine.
use Rattle.std.specs.Prelude.{ℕ, suc, ◌||◌, Bool, true, false, List, [], ◌∷◌, if◌then◌else◌}
use Rattle.typst_lexer.specs.declared.mode.Mode.{Mode}
use Rattle.typst_lexer.specs.declared.mode.Mode.TheVariants.{Markup}
use Rattle.typst_lexer.specs.Characters.{goes_on}
use Rattle.typst_lexer.specs.Classes.{begins_char, ends_line, is_blank}

-- how many bytes at the beginning of a text begin a character of the class, or continue one
abbrev pub run_len : (ℕ → Bool) → List ℕ → ℕ
run_len p [] = 0
run_len p (b ∷ bs) = if goes_on b || begins_char p (b ∷ bs) then suc (run_len p bs) else 0

-- how many newlines are in the blanks that a text begins with, and n more
abbrev pub newlines : ℕ → List ℕ → ℕ
newlines n [] = n
newlines n (b ∷ bs) =
    if goes_on b then newlines n bs
    else (if ends_line (b ∷ bs) then newlines (suc n) bs
    else (if begins_char is_blank (b ∷ bs) then newlines n bs else n))

-- the mode is that of markup
abbrev pub is_markup : Mode → Bool
is_markup Markup = true
is_markup _ = false
