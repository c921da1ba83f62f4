use Rattle.std.proofs.Common.{◌-◌, ◌≡◌, ◌+◌, ◌<◌, ◌≤◌, length, IfSome}
use Rattle.typst_node.specs.BinaryDigits.{binary_digits}
use Rattle.typst_linked.specs.Floor.{index_behind, IsFloorOf, NumbersRise, AreAbove}
use Rattle.typst_linked.proofs.halving.last_up_to.Given as goal

abbrev pub invariant-loop-low : goal.invariant-loop-low
invariant-loop-low l = record {
  ordered : l.low ≤ l.high;
  within : l.high ≤ length l.nodes;
  behind : index_behind l.floor ≡ l.low;
  found : IfSome l.floor (IsFloorOf l.nodes l.wanted);
  later : NumbersRise l.nodes → AreAbove l.nodes l.wanted l.high;
  cost : l.looks + binary_digits (l.high - l.low) ≤ l.fn.looks + binary_digits (length l.nodes);
  few : l.looks + (l.high - l.low) ≤ l.fn.looks + length l.nodes;
  least : IfSome l.floor (λ _. l.fn.looks < l.looks);
  grows : l.fn.looks ≤ l.looks;
}

abbrev pub decreases-loop-low : goal.decreases-loop-low
decreases-loop-low l = l.high - l.low
