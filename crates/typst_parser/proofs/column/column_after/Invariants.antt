use Rattle.std.proofs.Common.{◌≡◌, length}
use Rattle.typst_parser.specs.Columns.{column_after}
use Rattle.typst_parser.proofs.column.column_after.Given as goal

abbrev pub invariant-loop-rest : goal.invariant-loop-rest
invariant-loop-rest l = column_after l.now l.rest ≡ column_after l.fn.column l.fn.text

abbrev pub decreases-loop-rest : goal.decreases-loop-rest
decreases-loop-rest l = length l.rest
