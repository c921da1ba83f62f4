use Rattle.std.proofs.Common.{◌≡◌, length}
use Rattle.typst_parser.specs.Columns.{has_newline}
use Rattle.typst_parser.proofs.column.has_newline.Given as goal

abbrev pub invariant-loop-rest : goal.invariant-loop-rest
invariant-loop-rest l = has_newline l.rest ≡ has_newline l.fn.text

abbrev pub decreases-loop-rest : goal.decreases-loop-rest
decreases-loop-rest l = length l.rest
