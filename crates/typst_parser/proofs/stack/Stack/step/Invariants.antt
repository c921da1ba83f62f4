use Rattle.std.proofs.Common.{◌≡◌, ◌-◌}
use Rattle.typst_parser.specs.Steps.{looks}
use Rattle.typst_parser.specs.View.{stack_of, table_of}
use Rattle.typst_parser.proofs.stack.Stack.step.Given as goal

abbrev pub invariant-loop : goal.invariant-loop
invariant-loop l = looks (l.table.most_looks - l.counter) (table_of l.table) l.text (stack_of l.self) ≡ looks l.table.most_looks (table_of l.table) l.text (stack_of l.initial.self)
