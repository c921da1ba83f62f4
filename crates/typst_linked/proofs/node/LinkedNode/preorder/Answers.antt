use Rattle.typst_linked.proofs.Onwards.{first_below, enough_from}
use Rattle.typst_linked.proofs.node.LinkedNode.preorder.Goals as goal

pub invariant_of-result : goal.invariant_of-result
invariant_of-result c = enough_from c.args.self.now c.in_ok-clone.field-0 c.get.result.now c.descendants.result c.in_ok-clone.ensures.cases c.get.ensures c.descendants.ensures

pub returns : goal.returns
returns c = first_below c.args.self.now c.in_ok-clone.field-0 c.get.result.now c.descendants.result c.in_ok-clone.ensures.cases c.get.ensures c.descendants.ensures
