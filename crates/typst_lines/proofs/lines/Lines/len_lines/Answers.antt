use Rattle.std.proofs.Common.{ap, arith, length}
use Rattle.typst_lines.specs.LineTable.{LineTable}
use Rattle.typst_lines.proofs.LinesOf.{count_lines}
use Rattle.typst_lines.proofs.Seamed.{length-seamed}
use Rattle.typst_lines.proofs.lines.Lines.len_lines.Goals as goal

pub returns-clause-starts : goal.returns-clause-starts
returns-clause-starts c =
    let len = length-seamed c.self.inside.seam c.self.inside.end c.self.inside.kept.items c.self.invariant in
    omega (arith, c.len.ensures, len, ap (λ (v : LineTable). length v.starts) c.self.view_is)

pub returns-clause-counts : goal.returns-clause-counts
returns-clause-counts c = λ text are. omega (arith, returns-clause-starts c, count_lines c.args.self.now.ends c.args.self.now.starts text are.starts)
