use Rattle.std.proofs.Common.{◌≡◌, ◌+◌, ◌*◌, map, take}
use Rattle.typst_node.specs.Plain.{plain}
use Rattle.typst_node.specs.Count.{count, count_of_all}
use Rattle.typst_node.specs.Narrowing.{IsEmptyTrail}
use Rattle.typst_node.proofs.node.+trace.Given as goal

abbrev pub decreases-SyntaxNode::pair : goal.decreases-SyntaxNode::pair
decreases-SyntaxNode::pair l = 2 * count l.self.now

abbrev pub decreases-narrow::trace : goal.decreases-narrow::trace
decreases-narrow::trace l = 2 * count_of_all l.nodes.now + 1

abbrev pub invariant-narrow::trace-loop-i : goal.invariant-narrow::trace-loop-i
invariant-narrow::trace-loop-i l = (map plain (take l.i l.nodes) ≡ map plain (take l.i l.others)) × IsEmptyTrail l.trail
