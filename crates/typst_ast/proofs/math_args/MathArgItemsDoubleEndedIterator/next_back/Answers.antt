use Rattle.typst_ast.proofs.ItemViews.{last_told}
use Rattle.typst_atoms.proofs.ItemLists.{last_is_item}
use Rattle.typst_ast.proofs.math_args.MathArgItemsDoubleEndedIterator.next_back.Goals as goal

pub returns-clause-steps : goal.returns-clause-steps
returns-clause-steps c =
    last_told _ _ _ _ (last_is_item c.args.self.now.nodes.behind_hash c.args.self.now.nodes.rest.now _ _ c.in_ok-next_back.ensures.steps)
    c.in_ok-next_back.ensures.steps c.item_of.ensures
