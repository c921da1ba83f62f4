use Rattle.std.proofs.Common.{◌≡◌, ◌+◌, ◌*◌, map, take, drop}
use Rattle.typst_node.specs.Count.{count, count_of_all}
use Rattle.typst_node.specs.Tree.{forest}
use Rattle.typst_node.specs.Plain.{plain}
use Rattle.typst_node.specs.Interval.{IsWithin}
use Rattle.typst_node.proofs.node.+number.Given as goal

abbrev pub decreases-SyntaxNode::number_within : goal.decreases-SyntaxNode::number_within
decreases-SyntaxNode::number_within l = 3 * count l.self.now

abbrev pub decreases-InnerNode::number_below : goal.decreases-InnerNode::number_below
decreases-InnerNode::number_below l = 3 * count_of_all l.self.now.children.items + 2

abbrev pub decreases-number::number_all : goal.decreases-number::number_all
decreases-number::number_all l = 3 * count_of_all l.nodes.now + 1

abbrev pub invariant-number::number_all-loop-i : goal.invariant-number::number_all-loop-i
invariant-number::number_all-loop-i l = record {
  plain : map plain l.nodes ≡ map plain l.initial.nodes;
  left : l.start + l.stride * count_of_all (drop l.i l.nodes) ≡ l.initial.start + l.stride * count_of_all l.initial.nodes;
  within : IsWithin l.id l.initial.start l.start (forest (take l.i l.nodes));
}
