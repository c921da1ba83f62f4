use Rattle.std.proofs.Common.{◌≡◌, ◌+◌, ◌-◌, ◌^◌, ◌<◌, min, drop}
use Rattle.typst_node.specs.Count.{count_of_all}
use Rattle.typst_node.proofs.node.trim.count_nodes.Given as goal

abbrev pub invariant-loop-node : goal.invariant-loop-node
invariant-loop-node l = record {
  fits : l.sum < 2 ^ 64;
  counted : min (l.sum + count_of_all (drop l.node-index l.nodes)) (2 ^ 64 - 1) ≡ min (count_of_all l.nodes) (2 ^ 64 - 1);
}
