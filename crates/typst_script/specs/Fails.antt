-- Why a command may not be done, and which faults a line may end with.
use Rattle.std.specs.Prelude.{ℕ, ◌≡◌, ◌-◌, ◌⊎◌, List, length, drop, IsSomeAnd, ⊤}
use Rattle.typst_node.specs.Count.{SumsFit}
use Rattle.typst_node.specs.Numbering.{IsTooShort}
use Rattle.typst_script.specs.Command.{IsLineOf}
use Rattle.typst_script.specs.Done.{CanBeDone}
use Rattle.typst_script.specs.CommandError.{IsPrintError, fault_at}
use Rattle.typst_script.specs.declared.command.Command.{Command}
use Rattle.typst_script.specs.declared.command.Command.TheVariants.{Leaf, Error, Warn, Inner, Root, Number, Replace, Find, Run, Show}
use Rattle.typst_script.specs.declared.command_error.CommandError.{CommandError}
use Rattle.typst_script.specs.declared.command_error.CommandError.TheVariants.{Bad, Memory, Overflow}
use Rattle.typst_script.specs.declared.fault.Fault.{Fault}
use Rattle.typst_script.specs.declared.fault.Fault.TheVariants.{BadCommand}
use Rattle.typst_script.specs.declared.interpreter.Interpreter.{Interpreter}

-- the command makes a node, a list or a text
abbrev pub TakesMemory : Command → Type 0
TakesMemory (Leaf kind text) = ⊤
TakesMemory (Error message text) = ⊤
TakesMemory (Warn message) = ⊤
TakesMemory (Inner kind popped) = ⊤
TakesMemory Root = ⊥
TakesMemory (Number file low high) = ⊥
TakesMemory (Replace path start end popped) = ⊤
TakesMemory (Find file number) = ⊤
TakesMemory Run = ⊥
TakesMemory Show = ⊥

-- the command prints something: `run` and `show` always do, and `number` does if its range is too short
abbrev pub IsPrinting : Command → Interpreter → Type 0
IsPrinting (Leaf kind text) old = ⊥
IsPrinting (Error message text) old = ⊥
IsPrinting (Warn message) old = ⊥
IsPrinting (Inner kind popped) old = ⊥
IsPrinting Root old = ⊥
IsPrinting (Number file low high) old = IsSomeAnd old.tree (λ tree. IsTooShort tree low high)
IsPrinting (Replace path start end popped) old = ⊥
IsPrinting (Find file number) old = ⊥
IsPrinting Run old = ⊤
IsPrinting Show old = ⊤

-- the sums of the node that the command makes don't fit in a usize
abbrev pub IsTooLarge : Command → Interpreter → Type 0
IsTooLarge (Leaf kind text) old = ⊥
IsTooLarge (Error message text) old = ⊥
IsTooLarge (Warn message) old = ⊥
IsTooLarge (Inner kind popped) old = ¬ (SumsFit (drop (length old.stack.items - popped) old.stack.items))
IsTooLarge Root old = ⊥
IsTooLarge (Number file low high) old = ⊥
IsTooLarge (Replace path start end popped) old = ⊥
IsTooLarge (Find file number) old = ⊥
IsTooLarge Run old = ⊥
IsTooLarge Show old = ⊥

-- why the command isn't done: it can't be done, or it takes memory, makes too large a node or prints
abbrev pub IsErrorOf : Command → Interpreter → CommandError → Type 0
IsErrorOf command old error =
    ((error ≡ Bad) × ¬ (CanBeDone command old))
    ⊎ (((error ≡ Memory) × TakesMemory command)
    ⊎ (((error ≡ Overflow) × IsTooLarge command old) ⊎ (IsPrintError error × IsPrinting command old)))

-- the fault of a line: it holds no command, or it holds a command that isn't done
abbrev pub IsFaultIn : ℕ → List ℕ → Interpreter → Fault → Type 0
IsFaultIn line text old fault =
    ((fault ≡ BadCommand line) × ((command : Command) → ¬ (IsLineOf command text)))
    ⊎ ((command : Command) × (error : CommandError)
    × IsLineOf command text × IsErrorOf command old error × (fault ≡ fault_at line error))
