use Rattle.std.proofs.Common.{◌-◌, ◌<◌, length, get_or, ap, sym, ◌∙◌, arith}
use Rattle.std.proofs.lemmas.List.{get_or_read}
use Rattle.typst_lines.specs.LineTable.{LineTable}
use Rattle.typst_lines.proofs.Seamed.{length-seamed, far_place}
use Rattle.typst_lines.proofs.lines.Lines.start.Goals as goal

pub returns-else-line-self : goal.returns-else-line-self
returns-else-line-self c =
    let seam = c.self.inside.seam in
    let end = c.self.inside.end in
    let kept = c.self.inside.kept.items in
    let view = ap (λ (v : LineTable). v.starts) c.self.view_is in
    let len = length-seamed c.self.inside.seam c.self.inside.end c.self.inside.kept.items c.self.invariant in
    let within : c.args.line < length c.self.inside.kept.items = omega (arith, c.requires, len, ap (λ l. length l) view) in
    let read = get_or_read kept c.args.line c.index-kept.result.now within c.index-kept.ensures 0 in
    c.saturating_sub.ensures ∙ ap (λ x. end - x) read ∙ sym (far_place seam end kept c.self.invariant c.args.line c.if-line-self.false within)
    ∙ ap (λ l. get_or l c.args.line 0) view
