use Rattle.std.proofs.Common.{Some, ◌∙◌, rules, tests}
use Rattle.std.proofs.lemmas.Iterator.{YieldsList-from_slice}
use Rattle.std.proofs.lemmas.Iterator.Search.{find_from_yields_List}
use Rattle.typst_accessors.proofs.modules.imports.Goals as goal
use Rattle.typst_ast.specs.Imports.{is_imports_kind}
use Rattle.typst_atoms.proofs.Finds.{find_is_first}
use Rattle.typst_node.specs.Children.{children_in}
use Rattle.typst_node.specs.Views.{node_kind}

pub returns : goal.returns
returns c =
    let nodes = children_in (Some c.args.node.now) in
    find_from_yields_List (λ t. is_imports_kind (node_kind t)) _ _ c.find.result c.find.ensures.ran (YieldsList-from_slice nodes cc) (λ x b q k. search (rules, tests))
    ∙ find_is_first (λ t. is_imports_kind (node_kind t)) nodes
