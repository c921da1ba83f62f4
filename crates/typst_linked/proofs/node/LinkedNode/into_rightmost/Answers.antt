use Rattle.typst_linked.specs.Leaves.{is_good}
use Rattle.typst_linked.proofs.Walks.{last_here}
use Rattle.typst_linked.proofs.node.LinkedNode.into_rightmost.Goals as goal

pub returns-then-is_good_leaf : goal.returns-then-is_good_leaf
returns-then-is_good_leaf c =
    last_here is_good c.args.self c.get.result.now c.get.ensures (c.is_good_leaf.ensures.good.0 c.if-is_good_leaf.true) (c.is_good_leaf.ensures.childless c.if-is_good_leaf.true)
