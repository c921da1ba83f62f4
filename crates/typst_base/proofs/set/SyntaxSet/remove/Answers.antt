use Rattle.std.proofs.Common.{refl, ◌∙◌, sym}
use Rattle.typst_base.proofs.SetLemmas.{holds-without, less}
use Rattle.typst_base.proofs.set.SyntaxSet.remove.Goals as goal

pub returns : goal.returns
returns c = λ k.
    holds-without c.args.self c.only-only.result _ _ _ _ c.self.view_is c.self.invariant.0 c.only.view_is c.only.invariant.0 c.only.invariant.1 k
    ∙ less _ _ _ _ refl (sym (c.only-only.ensures k))
