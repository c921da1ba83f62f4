-- Why a command isn't done, and the fault of its line.
use Rattle.std.specs.Prelude.{ℕ, ◌≡◌, ◌⊎◌}
use Rattle.typst_script.specs.declared.command_error.CommandError.{CommandError}
use Rattle.typst_script.specs.declared.command_error.CommandError.TheVariants.{Bad, Write, Memory, Overflow}
use Rattle.typst_script.specs.declared.fault.Fault.{Fault}
use Rattle.typst_script.specs.declared.fault.Fault.TheVariants.{BadCommand, Write as WriteFault, Memory as MemoryFault, Overflow as OverflowFault}
use Rattle.typst_node.specs.declared.node.build.InnerError.{InnerError}
use Rattle.typst_node.specs.declared.node.build.InnerError.TheVariants.{Overflow as TooLarge, Memory as NoMemory}

-- the fault of the line with this number whose command isn't done
abbrev pub fault_at : ℕ → CommandError → Fault
fault_at line Bad = BadCommand line
fault_at line Write = WriteFault
fault_at line Memory = MemoryFault
fault_at line Overflow = OverflowFault

-- the error of a command whose inner node can't be made
abbrev pub error_of : InnerError → CommandError
error_of TooLarge = Overflow
error_of NoMemory = Memory

-- the error of a command whose answer can't be printed: the writer failed, or memory ran out
abbrev pub IsPrintError : CommandError → Type 0
IsPrintError error = (error ≡ Write) ⊎ (error ≡ Memory)
