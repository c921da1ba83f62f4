use Rattle.typst_ast.proofs.ItemViews.{first_told}
use Rattle.typst_atoms.proofs.ItemLists.{first_is_item}
use Rattle.typst_ast.proofs.math_args.MathArgItemsIterator.next.Goals as goal

pub returns-clause-steps : goal.returns-clause-steps
returns-clause-steps c =
    first_told _ _ _ _ (first_is_item c.args.self.now.nodes.behind_hash c.args.self.now.nodes.rest.now _ _ c.in_ok-next.ensures.steps)
    c.in_ok-next.ensures.steps c.item_of.ensures
