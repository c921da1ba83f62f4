use Rattle.std.proofs.Common.{arith, ap, sym, ◌∙◌, rules}
use Rattle.typst_node.specs.View.{hint_text}
use Rattle.typst_node.proofs.SameApart.{same_length, same_at, same_more}
use Rattle.typst_node.proofs.node.spanless.same_hints.Goals as goal

pub returns-then-hints-others : goal.returns-then-hints-others
returns-then-hints-others c = (λ h. cc, λ e. absurd (c.if-hints-others.true (same_length hint_text c.args.hints.now c.args.others.now e)))

pub returns-then-not-same_hint : goal.returns-then-not-same_hint
returns-then-not-same_hint c = (
  λ h. cc,
  λ e. c.if-not-same_hint.ensures.1 (ap hint_text c.index-hints-i.is ∙ (same_at hint_text c.args.hints.now c.args.others.now c.loop-i.i c.index-hints-i.result c.index-others-i.result (omega arith) (omega (arith, c.if-hints-others.false)) e ∙ sym (ap hint_text c.index-others-i.is))),
)

pub loop-i-preserved : goal.loop-i-preserved
loop-i-preserved c =
    same_more hint_text c.args.hints.now c.args.others.now c.loop-i.i c.index-hints-i.result c.index-others-i.result (omega arith) (omega (arith, c.if-hints-others.false)) c.loop-i.invariant
    c.index-hints-i.is c.index-others-i.is (c.if-not-same_hint.ensures.0 (search rules))
