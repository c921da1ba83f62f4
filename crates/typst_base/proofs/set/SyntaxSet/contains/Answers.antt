use Rattle.std.proofs.Common.{sym, ◌∙◌}
use Rattle.typst_base.proofs.SetLemmas.{holds-words, test-high, test-low}
use Rattle.typst_base.proofs.set.SyntaxSet.contains.Goals as goal

pub returns-then-number-lt-LOW_BITS : goal.returns-then-number-lt-LOW_BITS
returns-then-number-lt-LOW_BITS c =
    test-low _ c.self.inside.high _ _ (c.from-number.ensures ∙ c.to_u8.ensures.is) c.if-number-lt-LOW_BITS.true
    ∙ sym (holds-words c.args.self _ _ c.self.view_is c.self.invariant.0 c.args.kind)

pub returns-else-number-lt-LOW_BITS : goal.returns-else-number-lt-LOW_BITS
returns-else-number-lt-LOW_BITS c =
    test-high c.self.inside.low _ _ _ (c.from-number.ensures ∙ c.to_u8.ensures.is) c.if-number-lt-LOW_BITS.false
    ∙ sym (holds-words c.args.self _ _ c.self.view_is c.self.invariant.0 c.args.kind)
