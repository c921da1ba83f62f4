use Rattle.std.proofs.Common.{◌≡◌, ◌<◌}
use Rattle.typst_node.specs.Tree.{trees}
use Rattle.typst_linked.specs.Part.{begin_at}
use Rattle.typst_linked.proofs.endings.child_ending.Given as goal

abbrev pub invariant-loop-index : goal.invariant-loop-index
invariant-loop-index l = record {
  begin : l.begin ≡ begin_at (trees l.node.children) l.index;
  before : 0 < l.index → l.begin < l.goal;
}
