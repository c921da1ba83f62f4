use Rattle.std.proofs.Common.{◌≡◌, map, ◌+◌, ◌*◌, length, drop}
use Rattle.typst_node.specs.Count.{count, count_of_all}
use Rattle.typst_node.specs.MappedForest.{mapped_trees}
use Rattle.typst_node.specs.Text.{text_of_all}
use Rattle.typst_node.proofs.MappedLemmas.{so_far}
use Rattle.typst_node.proofs.Relabelled.{relabelled}
use Rattle.typst_node.proofs.SynthesizedLemmas.{bare}
use Rattle.typst_node.proofs.node.+map_places.Given as goal

abbrev pub decreases-SyntaxNode::map_places : goal.decreases-SyntaxNode::map_places
decreases-SyntaxNode::map_places l = 2 * count l.self.now

abbrev pub decreases-InnerNode::map_places_below : goal.decreases-InnerNode::map_places_below
decreases-InnerNode::map_places_below l = 2 * count_of_all l.self.now.children.items + 1

abbrev pub invariant-InnerNode::map_places_below-loop-child : goal.invariant-InnerNode::map_places_below-loop-child
invariant-InnerNode::map_places_below-loop-child l = record {
  done : so_far l.mapper l.id l.at l.child-index l.child-items ≡ mapped_trees l.mapper l.id l.initial.at l.initial.child-items;
  same : map (relabelled bare) l.child-items ≡ map (relabelled bare) l.initial.child-items;
  left : l.at + length (text_of_all (drop l.child-index l.child-items)) ≡ l.initial.at + length (text_of_all l.initial.child-items);
}
