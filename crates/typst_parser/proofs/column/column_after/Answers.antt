use Rattle.std.proofs.Common.{arith}
use Rattle.typst_parser.proofs.Columns.{printables_are}
use Rattle.typst_parser.proofs.column.column_after.Goals as goal

pub loop-rest-init : goal.loop-rest-init
loop-rest-init c =
    printables_are c.args.column c.printables-len.result c.saturating_add-now.result c.args.text.now (omega (arith, c.ranges.column.fits)) c.printables-len.ensures.value c.saturating_add-now.ensures
