use Rattle.std.proofs.lemmas.Nat.{or_lt}
use Rattle.typst_base.proofs.SetLemmas.{holds-or}
use Rattle.typst_base.proofs.set.SyntaxSet.union.Goals as goal

pub invariant_of-result : goal.invariant_of-result
invariant_of-result c =
    (or_lt 128 _ _ c.self.invariant.0 c.other.invariant.0, or_lt 9 _ _ c.self.invariant.1 c.other.invariant.1)

pub returns : goal.returns
returns c =
    holds-or c.args.self c.args.other _ _ _ _ c.self.view_is c.self.invariant.0 c.other.view_is c.other.invariant.0
