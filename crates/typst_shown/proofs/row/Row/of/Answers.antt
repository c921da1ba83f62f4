use Rattle.std.proofs.Common.{◌+◌, ◌∙◌, ap, length}
use Rattle.typst_base.specs.Span.{SpanParts}
use Rattle.typst_node.specs.Text.{text}
use Rattle.typst_shown.proofs.RowFacts.{row_is}
use Rattle.typst_shown.proofs.row.Row.of.Goals as goal

pub returns-clause-returns : goal.returns-clause-returns
returns-clause-returns c =
    let t = c.get-tree.result.now in
    let end = c.range-range.ensures.end t c.get-tree.ensures ∙ ap (λ start. start + length (text t)) c.range-range.ensures.start in
    row_is c.args.node.now t _ c.get-tree.ensures c.in_ok-depth.ensures.depth c.index.ensures
    c.is_last.ensures c.kind.ensures.kind c.is_inner.ensures c.range-range.ensures.start end
    (c.number.ensures.is ∙ ap (λ (s : SpanParts). s.low) c.span.ensures) c.upper.ensures
