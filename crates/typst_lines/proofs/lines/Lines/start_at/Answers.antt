use Rattle.std.proofs.Common.{length, get_or, ap, ◌∙◌, arith}
use Rattle.typst_lines.specs.LineStarts.{line_start}
use Rattle.typst_lines.proofs.Numbered.{in_line}
use Rattle.typst_lines.proofs.lines.Lines.start_at.Goals as goal

pub start-requires : goal.start-requires
start-requires c =
    let there = in_line c.args.self.now.ends c.args.text.now c.args.byte c.requires.inside in
    omega (arith, there.inside, c.line_at.ensures.line, ap (λ l. length l) c.requires.lines.starts)

pub returns-clause-start : goal.returns-clause-start
returns-clause-start c = c.start.ensures ∙ ap (λ l. get_or l c.line_at.result 0) c.requires.lines.starts ∙ ap (λ k. line_start c.args.self.now.ends c.args.text.now k) c.line_at.ensures.line

pub returns-clause-before : goal.returns-clause-before
returns-clause-before c =
    let there = in_line c.args.self.now.ends c.args.text.now c.args.byte c.requires.inside in
    omega (arith, returns-clause-start c, there.before)
