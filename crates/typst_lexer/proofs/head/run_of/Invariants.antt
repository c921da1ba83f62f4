use Rattle.std.proofs.Common.{◌≡◌, ◌-◌, ◌≤◌, length, drop}
use Rattle.typst_lexer.specs.FirstToken.{run_of}
use Rattle.typst_lexer.specs.Machine.{accepts, count, stay}
use Rattle.typst_lexer.specs.Runs.{run}
use Rattle.typst_lexer.proofs.Runs.{joined_run, Ends}
use Rattle.typst_lexer.proofs.head.run_of.Given as goal

abbrev pub invariant-loop-run : goal.invariant-loop-run
invariant-loop-run l = record {
  within : l.run.passed ≤ length l.bytes;
  counted : count l.state ≤ l.run.passed;
  ends : Ends stay accepts l.run l.state;
  so_far : joined_run stay accepts l.run (run stay accepts 10 l.state (drop l.run.passed l.bytes)) ≡ run_of l.fn.mode l.fn.behind l.bytes;
}

abbrev pub decreases-loop-run : goal.decreases-loop-run
decreases-loop-run l = length l.bytes - l.run.passed
