-- The lines that put a remark on the newest node, and what a remark does to a node.
use Rattle.std.specs.Prelude.{ℕ, ◌≡◌, ◌⊎◌, List, [], ◌∷◌, ◌++◌, None, codes}
use Rattle.std.specs.declared.ops.Range.{Range}
use Rattle.typst_answers.specs.declared.remark.Remark.{Remark}
use Rattle.typst_answers.specs.declared.remark.Remark.TheVariants.{Hint, HintAt, WarnAt}
use Rattle.typst_node.specs.Hints.{CanHint, hint_for, hinted}
use Rattle.typst_node.specs.Tree.{Tree}
use Rattle.typst_node.specs.Warnings.{FitsRange, part_for, warned, warning}
use Rattle.typst_script.specs.Command.{IsLineOf}
use Rattle.typst_script.specs.Done.{IsDone}
use Rattle.typst_script.specs.Word.{blank, IsNumber}
use Rattle.typst_script.specs.declared.command.Command.{Command}
use Rattle.typst_script.specs.declared.interpreter.Interpreter.{Interpreter}

-- the text is two numbers, each with a blank after it, and then the last part
abbrev pub WritesPart : List ℕ → ℕ → ℕ → List ℕ → Type 0
WritesPart text start end last =
    (from : List ℕ) × (to : List ℕ) × (text ≡ from ++ blank ∷ (to ++ blank ∷ last)) × IsNumber from start × IsNumber to end

-- the line, without its end, asks for this remark
abbrev pub IsRemarkLine : Remark → List ℕ → Type 0
IsRemarkLine (Hint text) line = line ≡ codes "hint " ++ text.now
IsRemarkLine (HintAt start end text) line = (rest : List ℕ) × (line ≡ codes "hintat " ++ rest) × WritesPart rest start end text.now
IsRemarkLine (WarnAt start end message) line =
    (rest : List ℕ) × (line ≡ codes "warnat " ++ rest) × WritesPart rest start end message.now

-- the bytes from one index to another
abbrev pub bytes_between : ℕ → ℕ → Range ℕ
bytes_between start end = record { start = start; end = end }

-- the node takes the remark: a hint needs an error or a warning, and a part lies within the text
abbrev pub TakesRemark : Remark → Tree → Type 0
TakesRemark (Hint text) t = CanHint t.label
TakesRemark (HintAt start end text) t = CanHint t.label × FitsRange (bytes_between start end) t
TakesRemark (WarnAt start end message) t = FitsRange (bytes_between start end) t

-- the node with the remark
abbrev pub remarked : Remark → Tree → Tree
remarked (Hint text) t = hinted (hint_for None text.now ∷ []) t
remarked (HintAt start end text) t = hinted (hint_for (part_for (bytes_between start end)) text.now ∷ []) t
remarked (WarnAt start end message) t = warned (warning (part_for (bytes_between start end)) message.now) t

-- the newest node takes the remark, and has it; nothing else has changed
abbrev pub IsRemarked : Remark → Interpreter → Interpreter → Type 0
IsRemarked remark old new =
    (below : List Tree) × (top : Tree) × (old.stack.items ≡ below ++ top ∷ []) × TakesRemark remark top
    × (new.stack.items ≡ below ++ remarked remark top ∷ []) × (new.tree ≡ old.tree) × (new.queue.items ≡ old.queue.items)

-- what the line asks for is done: a remark is put, or a command of a script carried out
abbrev pub IsBuilt : List ℕ → Interpreter → Interpreter → Type 0
IsBuilt line old new =
    ((remark : Remark) × IsRemarkLine remark line × IsRemarked remark old new)
    ⊎ ((command : Command) × IsLineOf command line × IsDone command old new)
