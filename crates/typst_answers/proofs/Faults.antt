-- The fault of a line that can't be done has the line's own number.
use Rattle.std.specs.Prelude.{ℕ, ◌≡◌, List, refl}
use Rattle.std.proofs.Common.{inl, inr}
use Rattle.typst_answers.specs.Looked.{IsBad}
use Rattle.typst_script.specs.CommandError.{fault_at}
use Rattle.typst_script.specs.Fails.{IsFaultIn}
use Rattle.typst_script.specs.declared.command_error.CommandError.{CommandError}
use Rattle.typst_script.specs.declared.command_error.CommandError.TheVariants.{Bad, Write, Memory, Overflow}
use Rattle.typst_script.specs.declared.fault.Fault.{Fault}
use Rattle.typst_script.specs.declared.fault.Fault.TheVariants.{BadCommand}
use Rattle.typst_script.specs.declared.interpreter.Interpreter.{Interpreter}

-- the fault of a command that can't be done is the fault of its line
bad_of_command : (line : ℕ) (error : CommandError) → IsBad (fault_at line error) → fault_at line error ≡ BadCommand line
bad_of_command line Bad bad = refl
bad_of_command line Write bad = absurd bad
bad_of_command line Memory bad = absurd bad
bad_of_command line Overflow bad = absurd bad

pub bad_at_line : (line : ℕ) (text : List ℕ) (old : Interpreter) (fault : Fault) → IsFaultIn line text old fault → IsBad fault
    → fault ≡ BadCommand line
bad_at_line line text old fault (inl h) bad = h.0
bad_at_line line text old fault (inr (command, error, reads, h, is)) bad = rw is (bad_of_command line error (rw is at bad))
