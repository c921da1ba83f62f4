use Rattle.std.proofs.Common.{◌≡◌, ◌+◌, length, drop}
use Rattle.typst_node.specs.Text.{text_of_all}
use Rattle.typst_node.proofs.node.joined_len.Given as goal

abbrev pub invariant-loop-node : goal.invariant-loop-node
invariant-loop-node l = l.len + length (text_of_all (drop l.node-index l.nodes)) ≡ length (text_of_all l.nodes)
