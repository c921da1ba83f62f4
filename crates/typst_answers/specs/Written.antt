-- What answers have written, and what a piece adds to it.
use Rattle.std.specs.Prelude.{ℕ, ◌≡◌, ◌++◌, List, IfOk, IsErr, IsOkAnd, string_bytes}
use Rattle.typst_answers.specs.declared.answers.Answers.{Answers}

-- these bytes are written, and no memory was refused
abbrev pub IsWritten : List ℕ → Answers → Type 0
IsWritten bytes out = IsOkAnd out.text (λ text. string_bytes text ≡ bytes)

-- memory was refused, and nothing more is written
abbrev pub IsRefused : Answers → Type 0
IsRefused out = IsErr out.text

-- the bytes are written after what was there, unless memory was refused
abbrev pub Adds : List ℕ → Answers → Answers → Type 0
Adds bytes old new = IfOk new.text (λ after. IsOkAnd old.text (λ before. string_bytes after ≡ string_bytes before ++ bytes))
