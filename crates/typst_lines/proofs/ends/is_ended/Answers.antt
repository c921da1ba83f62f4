use Rattle.std.proofs.Common.{◌<◌, ◌∙◌, ap, length, arith}
use Rattle.std.proofs.lemmas.Bool.Decides.{nat_tests}
use Rattle.typst_lines.specs.LineStarts.{begins_line}
use Rattle.typst_lines.proofs.LastEnd.{begins_at_end}
use Rattle.typst_lines.proofs.ends.is_ended.Goals as goal

pub returns-then-not-is_empty-clause-ended : goal.returns-then-not-is_empty-clause-ended
returns-then-not-is_empty-clause-ended c =
    let line = c.args.line.now in
    let some : 0 < length c.args.line.now = grind (arith, nat_tests) in
    c.begins_line.ensures ∙ ap (λ t. begins_line c.whole_text.result.ends t (length line)) c.whole_text.ensures.text
    ∙ ap (λ e. begins_line e line (length line)) c.whole_text.ensures.ends ∙ begins_at_end c.args.ends line some
