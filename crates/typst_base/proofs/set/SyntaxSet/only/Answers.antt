use Rattle.typst_base.proofs.SetLemmas.{holds-only_high, holds-only_low}
use Rattle.std.proofs.Common.{arith, ◌∙◌}
use Rattle.typst_base.proofs.set.SyntaxSet.only.Goals as goal

pub returns-then-number-lt-LOW_BITS : goal.returns-then-number-lt-LOW_BITS
returns-then-number-lt-LOW_BITS c =
    holds-only_low c.args.kind _ (c.from-number.ensures ∙ c.to_u8.ensures.is) c.if-number-lt-LOW_BITS.true

pub returns-else-number-lt-LOW_BITS : goal.returns-else-number-lt-LOW_BITS
returns-else-number-lt-LOW_BITS c =
    holds-only_high c.args.kind _ (c.from-number.ensures ∙ c.to_u8.ensures.is) c.if-number-lt-LOW_BITS.false (omega arith)
