-- The lines of a script that are commands.
use Rattle.std.specs.Prelude.{ℕ, ◌≡◌, ◌<◌, ◌≤◌, ◌^◌, List, ◌∷◌, ◌++◌, Contains, codes}
use Rattle.typst_script.specs.Word.{blank, tab, IsNumber, IsKindNumber, IsFileNumber}
use Rattle.typst_script.specs.Path.{IsPathWord}
use Rattle.typst_script.specs.declared.command.Command.{Command}
use Rattle.typst_script.specs.declared.command.Command.TheVariants.{Leaf, Error, Warn, Inner, Root, Number, Replace, Find, Run, Show}

-- the line, without its end, asks for this command
abbrev pub IsLineOf : Command → List ℕ → Type 0
IsLineOf (Leaf kind text) line =
    (word : List ℕ) × (line ≡ codes "leaf " ++ word ++ blank ∷ text.now) × IsKindNumber word kind
IsLineOf (Error message text) line = (line ≡ codes "error " ++ message.now ++ tab ∷ text.now) × ¬ (Contains message.now tab)
IsLineOf (Warn message) line = line ≡ codes "warn " ++ message.now
IsLineOf (Inner kind count) line =
    (word : List ℕ) × (other : List ℕ) × (line ≡ codes "inner " ++ word ++ blank ∷ other)
    × IsKindNumber word kind × IsNumber other count
IsLineOf Root line = line ≡ codes "root"
IsLineOf (Number file low high) line =
    (word : List ℕ) × (from : List ℕ) × (to : List ℕ)
    × (line ≡ codes "number " ++ word ++ blank ∷ (from ++ blank ∷ to))
    × IsFileNumber word file × IsNumber from low × IsNumber to high × (2 ≤ low) × (high ≤ 2 ^ 47)
IsLineOf (Replace path start end count) line =
    (from : List ℕ) × (to : List ℕ) × (other : List ℕ)
    × (line ≡ codes "replace " ++ path.word.now ++ blank ∷ (from ++ blank ∷ (to ++ blank ∷ other)))
    × IsPathWord path.word.now × IsNumber from start × IsNumber to end × IsNumber other count
IsLineOf (Find file number) line =
    (word : List ℕ) × (other : List ℕ) × (line ≡ codes "find " ++ word ++ blank ∷ other)
    × IsFileNumber word file × IsNumber other number × (2 ≤ number) × (number < 2 ^ 47)
IsLineOf Run line = line ≡ codes "run"
IsLineOf Show line = line ≡ codes "show"
