use Rattle.std.proofs.Common.{◌∙◌, rules, tests}
use Rattle.std.proofs.lemmas.Iterator.{YieldsList-from_slice}
use Rattle.std.proofs.lemmas.Iterator.Search.{find_from_yields_List}
use Rattle.std.specs.Option.{option_copied}
use Rattle.typst_atoms.proofs.Finds.{find_is_first}
use Rattle.typst_atoms.specs.Kinds.{is_kind}
use Rattle.typst_node.specs.Children.{children_in}
use Rattle.typst_node.specs.Views.{node_kind}
use Rattle.typst_atoms.proofs.nodes.first_of_kind.Goals as goal

pub returns : goal.returns
returns c =
    let nodes = children_in (option_copied c.args.node) in
    find_from_yields_List (λ t. is_kind c.args.kind (node_kind t)) _ _ c.find.result c.find.ensures.ran (YieldsList-from_slice nodes cc) (λ x b q k. search (rules, tests))
    ∙ find_is_first (λ t. is_kind c.args.kind (node_kind t)) nodes
