use Rattle.std.proofs.Common.{◌≡◌, length}
use Rattle.typst_node.specs.Children.{all_in}
use Rattle.typst_node.proofs.items.ItemsDoubleEndedIterator.next_back.Given as goal

abbrev pub invariant-loop-last : goal.invariant-loop-last
invariant-loop-last g l = all_in g.T.AstNode.class l.self.rest.now ≡ all_in g.T.AstNode.class l.initial.self.rest.now

abbrev pub decreases-loop-last : goal.decreases-loop-last
decreases-loop-last g l = length l.self.rest.now
