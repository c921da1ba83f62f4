use Rattle.std.proofs.Common.{◌≡◌, ◌+◌, Some}
use Rattle.typst_node.specs.Tree.{Tree}
use Rattle.typst_linked.specs.Place.{subtree, BeginsAt}
use Rattle.typst_linked.specs.Leaves.{later_from}
use Rattle.typst_linked.proofs.node.LinkedNode.leaf_behind.Given as goal

abbrev pub invariant-loop-index : goal.invariant-loop-index
invariant-loop-index l = record {
  begin : BeginsAt l.parent.value l.index l.begin;
  found : (s : Tree) → subtree l.parent.value ≡ Some s → later_from s (l.before + 1) ≡ later_from s l.index;
}
