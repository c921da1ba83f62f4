use Rattle.std.proofs.Common.{arith}
use Rattle.typst_parser.proofs.Spanning.{span_step}
use Rattle.typst_parser.proofs.span.span.Goals as goal

pub loop-need-preserved : goal.loop-need-preserved
loop-need-preserved c = record {
  within = omega arith;
  so_far = span_step c.args.events.now c.loop-need.left c.loop-need.need c.min-need.result _ c.children.result _ c.if-left-gt0.true c.loop-need.invariant.within c.loop-need-test.true
      c.children.ensures (omega (arith, c.min-need.ensures, c.saturating_add.ensures, c.loop-need.auto.left-fits)) c.loop-need.invariant.so_far;
}
