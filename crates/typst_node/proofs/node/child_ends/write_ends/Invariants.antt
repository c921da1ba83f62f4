use Rattle.std.proofs.Common.{◌≡◌, length, take, drop}
use Rattle.typst_node.specs.ChildEnds.{ends_from}
use Rattle.typst_node.proofs.node.child_ends.write_ends.Given as goal

abbrev pub invariant-loop-i : goal.invariant-loop-i
invariant-loop-i l = record {
  many : length l.ends ≡ length l.children;
  before : take l.i l.ends ≡ take l.i (ends_from 0 l.children);
  behind : drop l.to l.ends ≡ drop l.to l.initial.ends;
}
