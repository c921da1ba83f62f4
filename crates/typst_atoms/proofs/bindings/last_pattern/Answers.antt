use Rattle.std.proofs.Common.{◌∙◌, rules, tests}
use Rattle.std.proofs.lemmas.Iterator.Adapters.{YieldsList-from_rev_slice}
use Rattle.std.proofs.lemmas.Iterator.Search.{find_from_yields_List}
use Rattle.std.specs.Option.{option_copied}
use Rattle.typst_atoms.proofs.Finds.{find_back_is_last}
use Rattle.typst_atoms.specs.Classes.{is_pattern_kind}
use Rattle.typst_node.specs.Children.{children_in}
use Rattle.typst_node.specs.Views.{node_kind}
use Rattle.typst_atoms.proofs.bindings.last_pattern.Goals as goal

pub returns : goal.returns
returns c =
    let nodes = children_in (option_copied c.args.node) in
    find_from_yields_List (λ t. is_pattern_kind (node_kind t)) _ _ c.find.result c.find.ensures.ran (YieldsList-from_rev_slice nodes cc) (λ x b q k. search (rules, tests))
    ∙ find_back_is_last (λ t. is_pattern_kind (node_kind t)) nodes
