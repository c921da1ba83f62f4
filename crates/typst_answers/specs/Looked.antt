-- The lines that ask to look at a tree, and the fault of a line that can't be done.
use Rattle.std.specs.Prelude.{ℕ, ◌≡◌, List, codes, ⊤}
use Rattle.typst_answers.specs.declared.looker.Look.{Look}
use Rattle.typst_answers.specs.declared.looker.Look.TheVariants.{Views, Walks, Blank}
use Rattle.typst_script.specs.declared.fault.Fault.{Fault}
use Rattle.typst_script.specs.declared.fault.Fault.TheVariants.{BadCommand, Read, Write, Memory, Overflow}

-- the line, without its end, asks for this look
abbrev pub IsLookLine : Look → List ℕ → Type 0
IsLookLine Views line = line ≡ codes "look views"
IsLookLine Walks line = line ≡ codes "look walks"
IsLookLine Blank line = line ≡ codes "look blank"

-- the fault of a line that can't be done
abbrev pub IsBad : Fault → Type 0
IsBad (BadCommand line) = ⊤
IsBad Read = ⊥
IsBad Write = ⊥
IsBad Memory = ⊥
IsBad Overflow = ⊥
