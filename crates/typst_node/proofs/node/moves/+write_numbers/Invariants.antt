use Rattle.std.proofs.Common.{◌≡◌, take}
use Rattle.typst_node.specs.Count.{count_of_all}
use Rattle.typst_node.specs.Moves.{numbers}
use Rattle.typst_node.proofs.node.moves.+write_numbers.Given as goal

abbrev pub decreases-write_numbers : goal.decreases-write_numbers
decreases-write_numbers l = count_of_all l.nodes.now

abbrev pub invariant-loop-node : goal.invariant-loop-node
invariant-loop-node l = record {
  at_is : l.at ≡ count_of_all (take l.node-index l.nodes);
  so_far : take l.at l.out ≡ numbers (take l.node-index l.nodes);
}
