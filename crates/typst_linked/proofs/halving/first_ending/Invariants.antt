use Rattle.std.proofs.Common.{◌-◌, ◌≡◌, ◌+◌, ◌<◌, ◌≤◌, length}
use Rattle.typst_node.specs.Tree.{trees}
use Rattle.typst_node.specs.BinaryDigits.{binary_digits}
use Rattle.typst_linked.specs.Part.{begin_at}
use Rattle.typst_linked.proofs.halving.first_ending.Given as goal

abbrev pub invariant-loop-low : goal.invariant-loop-low
invariant-loop-low l = record {
  ordered : l.low ≤ l.high;
  within : l.high ≤ length (trees l.node.children);
  begin : l.begin ≡ begin_at (trees l.node.children) l.low;
  before : 0 < l.low → l.begin < l.goal;
  behind : l.high < length (trees l.node.children) → l.goal ≤ begin_at (trees l.node.children) (l.high + 1);
  cost : l.looks + binary_digits (l.high - l.low) ≤ l.fn.looks + binary_digits (length (trees l.node.children));
  few : l.looks + (l.high - l.low) ≤ l.fn.looks + length (trees l.node.children);
  grows : l.fn.looks ≤ l.looks;
  least : l.high < length (trees l.node.children) → l.fn.looks < l.looks;
}

abbrev pub decreases-loop-low : goal.decreases-loop-low
decreases-loop-low l = l.high - l.low
