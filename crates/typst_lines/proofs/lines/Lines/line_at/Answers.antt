use Rattle.std.proofs.Common.{◌-◌, ap, sym, subst, arith}
use Rattle.typst_lines.proofs.Picked.{picked-some}
use Rattle.typst_lines.specs.LineStarts.{begins_line}
use Rattle.typst_lines.specs.TextLines.{IsInLine}
use Rattle.typst_lines.proofs.LinesOf.{is_in_line}
use Rattle.typst_lines.proofs.Seams.{begins-first}
use Rattle.typst_lines.proofs.lines.Lines.line_at.Goals as goal

pub overflow_sub-result : goal.overflow_sub-result
overflow_sub-result c =
    let text = c.args.text.now in
    omega (arith, c.count_through.ensures c.args.text.now c.requires.lines c.requires.inside, picked-some (begins_line c.args.self.now.ends text) c.args.byte (begins-first c.args.self.now.ends text))

pub returns-clause-line : goal.returns-clause-line
returns-clause-line c = ap (λ k. k - 1) (c.count_through.ensures c.args.text.now c.requires.lines c.requires.inside)

pub returns-clause-inside : goal.returns-clause-inside
returns-clause-inside c = subst (IsInLine c.args.self.now.ends c.args.text.now c.args.byte) (sym (returns-clause-line c)) (is_in_line c.args.self.now.ends c.args.text.now c.args.byte c.requires.inside)
