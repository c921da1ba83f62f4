use Rattle.std.proofs.Common.{◌≡◌, map, ◌+◌, ◌*◌}
use Rattle.typst_node.specs.Count.{count, count_of_all}
use Rattle.typst_node.specs.Synthesized.{synthesized}
use Rattle.typst_node.proofs.Each.{each}
use Rattle.typst_node.proofs.Relabelled.{relabelled}
use Rattle.typst_node.proofs.SynthesizedLemmas.{bare}
use Rattle.typst_node.proofs.node.+synthesize.Given as goal

abbrev pub decreases-SyntaxNode::synthesize : goal.decreases-SyntaxNode::synthesize
decreases-SyntaxNode::synthesize l = 2 * count l.self.now

abbrev pub decreases-InnerNode::synthesize_below : goal.decreases-InnerNode::synthesize_below
decreases-InnerNode::synthesize_below l = 2 * count_of_all l.self.now.children.items + 1

abbrev pub invariant-InnerNode::synthesize_below-loop-child : goal.invariant-InnerNode::synthesize_below-loop-child
invariant-InnerNode::synthesize_below-loop-child l = record {
  done : each (λ t. t) (synthesized l.span) l.child-index l.child-items ≡ map (synthesized l.span) l.initial.child-items;
  same : map (relabelled bare) l.child-items ≡ map (relabelled bare) l.initial.child-items;
}
