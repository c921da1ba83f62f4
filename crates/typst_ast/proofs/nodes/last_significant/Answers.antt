use Rattle.std.proofs.Common.{◌∙◌, not, rules, tests}
use Rattle.std.proofs.lemmas.Iterator.Adapters.{YieldsList-from_rev_slice}
use Rattle.std.proofs.lemmas.Iterator.Search.{find_from_yields_List}
use Rattle.typst_atoms.proofs.Finds.{find_back_is_last}
use Rattle.typst_base.specs.KindClasses.{is_trivia_kind}
use Rattle.typst_node.specs.Views.{node_kind}
use Rattle.typst_ast.proofs.nodes.last_significant.Goals as goal

pub returns : goal.returns
returns c =
    find_from_yields_List (λ t. not (is_trivia_kind (node_kind t))) _ _ c.find.result c.find.ensures.ran (YieldsList-from_rev_slice c.args.nodes.now cc) (λ x b q k. search (rules, tests))
    ∙ find_back_is_last (λ t. not (is_trivia_kind (node_kind t))) c.args.nodes.now
