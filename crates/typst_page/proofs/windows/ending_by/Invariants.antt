use Rattle.std.proofs.Common.{◌≡◌, ◌≤◌}
use Rattle.typst_node.specs.Tree.{trees}
use Rattle.typst_linked.specs.Part.{begin_at}
use Rattle.typst_page.proofs.windows.ending_by.Given as goal

abbrev pub invariant-loop-i : goal.invariant-loop-i
invariant-loop-i l = record {
  sum : l.end ≡ begin_at (trees l.node.children) l.i;
  by : l.end ≤ l.byte;
}
