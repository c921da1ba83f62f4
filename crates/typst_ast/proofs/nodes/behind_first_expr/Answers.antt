use Rattle.std.proofs.Common.{◌≡◌, ◌∙◌, rules, tests, sym}
use Rattle.std.proofs.lemmas.Iterator.{YieldsList-from_slice}
use Rattle.std.proofs.lemmas.Iterator.Search.{position_from_yields_List}
use Rattle.std.specs.List.{position}
use Rattle.typst_atoms.proofs.Finds.{behind_none, behind_position}
use Rattle.typst_atoms.specs.ExprKinds.{is_expr_kind}
use Rattle.typst_node.specs.Views.{node_kind}
use Rattle.typst_ast.proofs.nodes.behind_first_expr.Goals as goal

pub returns-in-Some : goal.returns-in-Some
returns-in-Some c =
    let nodes = c.args.nodes.now in
    let at : c.position.result ≡ position (λ t. is_expr_kind (node_kind t)) nodes = position_from_yields_List _ _ _ _ c.position.ensures.ran (YieldsList-from_slice nodes cc) (λ x b q k. search (rules, tests)) in
    behind_position is_expr_kind nodes c.in-Some.first (sym at ∙ c.in-Some.is)

pub returns-in-None : goal.returns-in-None
returns-in-None c =
    let nodes = c.args.nodes.now in
    let at : c.position.result ≡ position (λ t. is_expr_kind (node_kind t)) nodes = position_from_yields_List _ _ _ _ c.position.ensures.ran (YieldsList-from_slice nodes cc) (λ x b q k. search (rules, tests)) in
    behind_none is_expr_kind nodes (sym at ∙ c.in-None.is)
