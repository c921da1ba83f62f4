use Rattle.std.proofs.Common.{arith, ap, sym, ◌∙◌, rules}
use Rattle.typst_node.specs.View.{warning_text}
use Rattle.typst_node.proofs.SameApart.{same_length, same_at, same_more}
use Rattle.typst_node.proofs.node.spanless.same_warnings.Goals as goal

pub returns-then-warnings-others : goal.returns-then-warnings-others
returns-then-warnings-others c = (λ h. cc, λ e. absurd (c.if-warnings-others.true (same_length warning_text c.args.warnings.now c.args.others.now e)))

pub returns-then-not-same_warning : goal.returns-then-not-same_warning
returns-then-not-same_warning c = (
  λ h. cc,
  λ e. c.if-not-same_warning.ensures.1 (ap warning_text c.index-warnings-i.is ∙ (same_at warning_text c.args.warnings.now c.args.others.now c.loop-i.i c.index-warnings-i.result c.index-others-i.result (omega arith) (omega (arith, c.if-warnings-others.false)) e ∙ sym (ap warning_text c.index-others-i.is))),
)

pub loop-i-preserved : goal.loop-i-preserved
loop-i-preserved c =
    same_more warning_text c.args.warnings.now c.args.others.now c.loop-i.i c.index-warnings-i.result c.index-others-i.result (omega arith) (omega (arith, c.if-warnings-others.false)) c.loop-i.invariant
    c.index-warnings-i.is c.index-others-i.is (c.if-not-same_warning.ensures.0 (search rules))
