use Rattle.std.proofs.Common.{◌≡◌, ◌+◌, ◌-◌, length}
use Rattle.typst_parser.specs.Steps.{steps}
use Rattle.typst_parser.specs.View.{stack_of, table_of}
use Rattle.typst_parser.proofs.stack.Stack.steps.Given as goal

abbrev pub invariant-loop : goal.invariant-loop
invariant-loop l = steps (length l.text + 1 - l.counter) (table_of l.table) l.text (stack_of l.self) ≡ steps (length l.text + 1) (table_of l.table) l.text (stack_of l.initial.self)
