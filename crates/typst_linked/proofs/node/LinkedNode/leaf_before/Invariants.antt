use Rattle.std.proofs.Common.{◌≡◌, Some}
use Rattle.typst_node.specs.Tree.{Tree}
use Rattle.typst_linked.specs.Place.{subtree, BeginsAt}
use Rattle.typst_linked.specs.Leaves.{earlier_up}
use Rattle.typst_linked.proofs.node.LinkedNode.leaf_before.Given as goal

abbrev pub invariant-loop-before : goal.invariant-loop-before
invariant-loop-before l = record {
  begin : BeginsAt l.parent.value l.before l.begin;
  found : (s : Tree) → subtree l.parent.value ≡ Some s → earlier_up s l.end ≡ earlier_up s l.before;
}
