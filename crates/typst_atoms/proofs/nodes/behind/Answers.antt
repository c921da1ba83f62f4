use Rattle.std.proofs.Common.{◌≡◌, ◌∙◌, rules, tests, sym}
use Rattle.std.proofs.lemmas.Iterator.{YieldsList-from_slice}
use Rattle.std.proofs.lemmas.Iterator.Search.{position_from_yields_List}
use Rattle.std.specs.List.{position}
use Rattle.typst_atoms.proofs.Finds.{behind_none, behind_position}
use Rattle.typst_atoms.specs.Kinds.{is_kind}
use Rattle.typst_node.specs.Views.{node_kind}
use Rattle.typst_atoms.proofs.nodes.behind.Goals as goal

pub returns-in-Some : goal.returns-in-Some
returns-in-Some c =
    let nodes = c.children-nodes.result.now in
    let at : c.position.result ≡ position (λ t. is_kind c.args.kind (node_kind t)) nodes = position_from_yields_List _ _ _ _ c.position.ensures.ran (YieldsList-from_slice nodes cc) (λ x b q k. search (rules, tests)) in
    rw (← c.children-nodes.ensures) (behind_position (is_kind c.args.kind) nodes c.in-Some.first (sym at ∙ c.in-Some.is))

pub returns-in-None : goal.returns-in-None
returns-in-None c =
    let nodes = c.children-nodes.result.now in
    let at : c.position.result ≡ position (λ t. is_kind c.args.kind (node_kind t)) nodes = position_from_yields_List _ _ _ _ c.position.ensures.ran (YieldsList-from_slice nodes cc) (λ x b q k. search (rules, tests)) in
    rw (← c.children-nodes.ensures) (behind_none (is_kind c.args.kind) nodes (sym at ∙ c.in-None.is))
