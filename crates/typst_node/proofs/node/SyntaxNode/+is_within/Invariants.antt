use Rattle.std.proofs.Common.{◌↔◌, ◌+◌, drop}
use Rattle.typst_node.specs.Count.{count}
use Rattle.typst_node.specs.Tree.{forest}
use Rattle.typst_node.specs.Interval.{IsWithin}
use Rattle.typst_node.proofs.node.SyntaxNode.+is_within.Given as goal

abbrev pub decreases-is_within : goal.decreases-is_within
decreases-is_within l = count l.self.now

abbrev pub invariant-loop-child : goal.invariant-loop-child
invariant-loop-child l = IsWithin l.id (l.number + 1) l.bound (forest l.child-items) ↔ IsWithin l.id l.at l.bound (forest (drop l.child-index l.child-items))
