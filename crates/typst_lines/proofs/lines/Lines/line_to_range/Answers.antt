use Rattle.std.proofs.Common.{◌≡◌, ◌≤◌, ap, sym, ◌∙◌, subst, slice_range}
use Rattle.std.specs.Str.{IsCharBoundary}
use Rattle.typst_lines.specs.LineStarts.{line_range}
use Rattle.typst_lines.proofs.Characters.{whole_line}
use Rattle.typst_lines.proofs.LinesOf.{is_there, start_is, range_is}
use Rattle.typst_lines.proofs.lines.Lines.line_to_range.Goals as goal

pub returns-clause-bytes : goal.returns-clause-bytes
returns-clause-bytes c =
    let text = c.args.text.now in
    let line = c.args.line in
    let found = c.in_ok-start.ensures.before c.args.text.now c.requires in
    let end : c.end_of-end.result ≡ (line_range c.args.self.now.ends c.args.text.now c.args.line).end = c.end_of-end.ensures in
    ap (λ s. slice_range text s c.end_of-end.result) (found.1 ∙ sym (start_is c.args.self.now.ends text line found.0))
    ∙ ap (λ e. slice_range text (line_range c.args.self.now.ends text line).start e) end
    ∙ range_is c.args.self.now.ends text line found.0

pub returns-clause-order : goal.returns-clause-order
returns-clause-order c =
    let text = c.args.text.now in
    let line = c.args.line in
    let found = c.in_ok-start.ensures.before c.args.text.now c.requires in
    let end : c.end_of-end.result ≡ (line_range c.args.self.now.ends c.args.text.now c.args.line).end = c.end_of-end.ensures in
    let whole = whole_line c.args.self.now.ends text line c.utf8.text (is_there c.args.self.now.ends text line found.0) in
    subst (λ e. c.in_ok-start.start ≤ e) (sym end) (subst (λ s. s ≤ (line_range c.args.self.now.ends text line).end) (sym (found.1 ∙ sym (start_is c.args.self.now.ends text line found.0))) whole.order)

pub returns-clause-front : goal.returns-clause-front
returns-clause-front c =
    let text = c.args.text.now in
    let line = c.args.line in
    let found = c.in_ok-start.ensures.before c.args.text.now c.requires in
    let whole = whole_line c.args.self.now.ends text line c.utf8.text (is_there c.args.self.now.ends text line found.0) in
    subst (IsCharBoundary text) (sym (found.1 ∙ sym (start_is c.args.self.now.ends text line found.0))) whole.front

pub returns-clause-back : goal.returns-clause-back
returns-clause-back c =
    let text = c.args.text.now in
    let line = c.args.line in
    let found = c.in_ok-start.ensures.before c.args.text.now c.requires in
    let end : c.end_of-end.result ≡ (line_range c.args.self.now.ends c.args.text.now c.args.line).end = c.end_of-end.ensures in
    let whole = whole_line c.args.self.now.ends text line c.utf8.text (is_there c.args.self.now.ends text line found.0) in
    subst (IsCharBoundary text) (sym end) whole.back
