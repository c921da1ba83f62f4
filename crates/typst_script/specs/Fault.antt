-- How the program ends after a fault.
use Rattle.std.specs.Prelude.{ℕ, ◌≡◌, ◌⊎◌}
use Rattle.typst_script.specs.declared.fault.Fault.{Fault}
use Rattle.typst_script.specs.declared.fault.Fault.TheVariants.{BadCommand, Read, Write, Memory, Overflow}

-- the status is 2 after a line that can't be done, and 1 after every other fault
abbrev pub status_of : Fault → ℕ
status_of (BadCommand line) = 2
status_of Read = 1
status_of Write = 1
status_of Memory = 1
status_of Overflow = 1

-- a fault of writing, or of memory
abbrev pub IsWriteFault : Fault → Type 0
IsWriteFault fault = (fault ≡ Write) ⊎ (fault ≡ Memory)

-- a fault of reading, or of memory
abbrev pub IsReadFault : Fault → Type 0
IsReadFault fault = (fault ≡ Read) ⊎ (fault ≡ Memory)
