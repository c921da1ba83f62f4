use Rattle.std.proofs.Common.{◌∙◌, sym, arith}
use Rattle.typst_lexer.proofs.TextRuns.{text_next}
use Rattle.typst_lexer.proofs.bytes.text_len.Goals as goal

pub loop-at-preserved : goal.loop-at-preserved
loop-at-preserved c = record {
  within = omega (arith, c.loop-at-test.true);
  so_far = omega (arith, c.loop-at.invariant.so_far, text_next c.args.bytes.now c.loop-at.at c.loop-at-test.true (sym c.goes_over_text.ensures ∙ c.if-goes_over_text.true));
}
