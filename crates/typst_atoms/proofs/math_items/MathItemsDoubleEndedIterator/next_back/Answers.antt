use Rattle.std.proofs.Common.{rules}
use Rattle.typst_atoms.proofs.ItemLists.{items_back_none, items_back_some, items_back_shorter}
use Rattle.typst_atoms.proofs.math_items.MathItemsDoubleEndedIterator.next_back.Goals as goal

pub returns-then-is_item-clause-steps : goal.returns-then-is_item-clause-steps
returns-then-is_item-clause-steps c =
    items_back_some _ _ _ _ _ _ c.loop-last.invariant c.in-Some.ensures.cases.0 c.is_item.ensures c.if-is_item.true

pub returns-then-is_item-clause-goes : goal.returns-then-is_item-clause-goes
returns-then-is_item-clause-goes c =
    let h = items_back_shorter _ _ _ _ _ _ c.loop-last.invariant c.in-Some.ensures.cases.0 c.is_item.ensures c.if-is_item.true in
    search rules

pub loop-last-preserved : goal.loop-last-preserved
loop-last-preserved c =
    items_back_none _ _ _ _ _ _ c.loop-last.invariant c.in-Some.ensures.cases.0 c.is_item.ensures c.if-is_item.false
