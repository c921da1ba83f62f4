use Rattle.std.proofs.Common.{length, ap, arith}
use Rattle.typst_lines.proofs.Places.{no_line}
use Rattle.typst_lines.proofs.lines.Lines.line_column_to_byte.Goals as goal

pub returns-else-line-len_lines : goal.returns-else-line-len_lines
returns-else-line-len_lines c =
    let lines = ap (λ l. length l) c.requires.starts in
    no_line c.args.self.now.ends c.args.unit c.args.text.now c.args.line c.args.column (omega (arith, c.len_lines.ensures.starts, c.if-line-len_lines.false, lines))
