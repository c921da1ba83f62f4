use Rattle.std.proofs.Common.{◌≡◌, length}
use Rattle.typst_node.specs.Children.{all_in}
use Rattle.typst_node.proofs.items.ItemsIterator.next.Given as goal

abbrev pub invariant-loop-self : goal.invariant-loop-self
invariant-loop-self g l = all_in g.T.AstNode.class l.self.rest.now ≡ all_in g.T.AstNode.class l.initial.self.rest.now

abbrev pub decreases-loop-self : goal.decreases-loop-self
decreases-loop-self g l = length l.self.rest.now
