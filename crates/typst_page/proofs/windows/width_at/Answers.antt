use Rattle.std.proofs.Common.{arith}
use Rattle.typst_page.proofs.Widths.{width_far}
use Rattle.typst_page.proofs.windows.width_at.Goals as goal

pub returns-in-Err : goal.returns-in-Err
returns-in-Err c = omega (arith, width_far c.args.turn (omega arith))
