use Rattle.std.proofs.Common.{◌≡◌, Some}
use Rattle.typst_node.specs.Tree.{Tree}
use Rattle.typst_linked.specs.Place.{subtree, BeginsAt}
use Rattle.typst_linked.specs.Search.{first_path}
use Rattle.typst_linked.specs.Leaves.{is_good}
use Rattle.typst_linked.proofs.Searching.{count_there}
use Rattle.typst_linked.proofs.Walks.{first_from}
use Rattle.typst_linked.proofs.node.LinkedNode.+leftmost_below.Given as goal

abbrev pub decreases-leftmost_below : goal.decreases-leftmost_below
decreases-leftmost_below l = count_there (subtree l.self)

abbrev pub invariant-loop-index : goal.invariant-loop-index
invariant-loop-index l = record {
  begin : BeginsAt l.fn.self l.index l.begin;
  found : (s : Tree) → subtree l.fn.self ≡ Some s → first_path is_good s ≡ first_from is_good s l.index;
}
