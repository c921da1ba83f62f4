use Rattle.std.proofs.Common.{◌∙◌, sym}
use Rattle.typst_lines.proofs.LastEnd.{len_none, len_crlf, len_one}
use Rattle.typst_lines.proofs.ends.line_end_len.Goals as goal

pub returns-then-not-is_ended-clause-len : goal.returns-then-not-is_ended-clause-len
returns-then-not-is_ended-clause-len c = sym (len_none c.args.ends c.args.line.now (sym c.is_ended.ensures.ended ∙ c.if-not-is_ended.true))

pub returns-then-ends_with_crlf-clause-len : goal.returns-then-ends_with_crlf-clause-len
returns-then-ends_with_crlf-clause-len c =
    sym (len_crlf c.args.ends c.args.line.now (sym c.is_ended.ensures.ended ∙ c.if-not-is_ended.false) (sym c.ends_with_crlf.ensures.crlf ∙ c.if-ends_with_crlf.true))

pub returns-else-ends_with_crlf-clause-len : goal.returns-else-ends_with_crlf-clause-len
returns-else-ends_with_crlf-clause-len c =
    c.end_width.ensures
    ∙ sym (len_one c.args.ends c.args.line.now (sym c.is_ended.ensures.ended ∙ c.if-not-is_ended.false) (sym c.ends_with_crlf.ensures.crlf ∙ c.if-ends_with_crlf.false))
