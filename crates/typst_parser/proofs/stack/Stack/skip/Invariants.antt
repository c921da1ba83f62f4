use Rattle.std.proofs.Common.{◌≡◌, ◌-◌, length}
use Rattle.typst_parser.specs.Reads.{skipped}
use Rattle.typst_parser.specs.View.{stack_of}
use Rattle.typst_parser.proofs.stack.Stack.skip.Given as goal

abbrev pub invariant-loop : goal.invariant-loop
invariant-loop l = skipped (length l.text - l.counter) l.mode l.text (stack_of l.self) ≡ skipped (length l.text) l.mode l.text (stack_of l.initial.self)
