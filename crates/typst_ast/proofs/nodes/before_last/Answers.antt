use Rattle.std.proofs.Common.{refl, subst, rules, tests}
use Rattle.typst_ast.proofs.Ends.{IsPlaceOfLast, place-found, place-past}
use Rattle.typst_ast.proofs.PositionBack.{position_back}
use Rattle.typst_atoms.specs.Kinds.{is_kind}
use Rattle.typst_node.specs.Views.{node_kind}
use Rattle.typst_ast.proofs.nodes.before_last.Goals as goal

pub returns-in-Some : goal.returns-in-Some
returns-in-Some c =
    let k = is_kind c.args.kind in
    let nodes = c.args.nodes.now in
    let place : IsPlaceOfLast k nodes c.rposition.result =
    position_back _ _ (λ t. k (node_kind t)) (λ x b q h. search (rules, tests)) (IsPlaceOfLast k) refl (λ t. place-past k t) (place-found k) _ _ _ _ _ c.iter.ensures.rest (cc) c.rposition.ensures.ran in
    (subst (IsPlaceOfLast k nodes) c.in-Some.is place).1

pub returns-in-None : goal.returns-in-None
returns-in-None c =
    let k = is_kind c.args.kind in
    let nodes = c.args.nodes.now in
    let place : IsPlaceOfLast k nodes c.rposition.result =
    position_back _ _ (λ t. k (node_kind t)) (λ x b q h. search (rules, tests)) (IsPlaceOfLast k) refl (λ t. place-past k t) (place-found k) _ _ _ _ _ c.iter.ensures.rest (cc) c.rposition.ensures.ran in
    subst (IsPlaceOfLast k nodes) c.in-None.is place
