use Rattle.std.proofs.Common.{◌≡◌, drop}
use Rattle.typst_grammar.specs.Row.{rows_of}
use Rattle.typst_parser.specs.Rows.{first_row}
use Rattle.typst_parser.specs.View.{stack_of}
use Rattle.typst_parser.proofs.stack.Stack.first_row.Given as goal

abbrev pub invariant-loop-row : goal.invariant-loop-row
invariant-loop-row l = first_row (rows_of (drop l.row-index l.rows)) (stack_of l.self) ≡ first_row (rows_of l.rows) (stack_of l.self)
