use Rattle.std.proofs.Common.{◌≡◌, ◌∷◌, [], rules, sym, ◌∙◌}
use Rattle.typst_base.specs.KindList.{kinds_in}
use Rattle.typst_base.proofs.KindListLemmas.{kinds_in-first, kinds_in-none}
use Rattle.typst_base.proofs.kinds.SyntaxKindsIterator.next.Goals as goal

pub returns-in_err-kind-clause-steps : goal.returns-in_err-kind-clause-steps
returns-in_err-kind-clause-steps c =
    let empty : c.args.self.now ≡ [] = sym c.self.view_is ∙ kinds_in-none c.self.inside.left c.in_err-kind.ensures.none in
    search rules

pub returns-clause-steps : goal.returns-clause-steps
returns-clause-steps c =
    sym c.self.view_is ∙ kinds_in-first c.self.inside.left c.remove-self-inside.result c.in_ok-kind.kind c.in_ok-kind.ensures.held c.in_ok-kind.ensures.lowest c.remove-self-inside.ensures

pub returns-clause-goes : goal.returns-clause-goes
returns-clause-goes c =
    let step : c.args.self.now ≡ c.in_ok-kind.kind ∷ kinds_in c.remove-self-inside.result =
    sym c.self.view_is ∙ kinds_in-first c.self.inside.left c.remove-self-inside.result c.in_ok-kind.kind c.in_ok-kind.ensures.held c.in_ok-kind.ensures.lowest c.remove-self-inside.ensures in
    search rules
