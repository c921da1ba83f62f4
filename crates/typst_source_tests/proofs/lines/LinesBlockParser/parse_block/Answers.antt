use Rattle.std.proofs.Common.{◌∙◌, sym, ap, subst}
use Rattle.std.specs.Str.{IsCharBoundary}
use Rattle.typst_source_tests.specs.Lines.{line_len}
use Rattle.typst_source_tests.specs.Laws.{lines_boundary}
use Rattle.typst_source_tests.proofs.lines.LinesBlockParser.parse_block.Goals as goal

pub split_at-requires : goal.split_at-requires
split_at-requires c =
    subst (IsCharBoundary c.args.text.now) (sym (c.line_extent-len.ensures.len ∙ ap line_len c.as_bytes.ensures.value)) (lines_boundary c.args.text.now c.utf8.text)
