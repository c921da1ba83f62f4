use Rattle.std.proofs.Common.{◌≡◌, Some}
use Rattle.typst_node.specs.Tree.{Tree}
use Rattle.typst_linked.specs.Place.{subtree, BeginsAt}
use Rattle.typst_linked.specs.Search.{last_path}
use Rattle.typst_linked.specs.Leaves.{is_good}
use Rattle.typst_linked.proofs.Searching.{count_there}
use Rattle.typst_linked.proofs.Walks.{last_up}
use Rattle.typst_linked.proofs.node.LinkedNode.+rightmost_below.Given as goal

abbrev pub decreases-rightmost_below : goal.decreases-rightmost_below
decreases-rightmost_below l = count_there (subtree l.self)

abbrev pub invariant-loop-index : goal.invariant-loop-index
invariant-loop-index l = record {
  begin : BeginsAt l.fn.self l.index l.begin;
  found : (s : Tree) → subtree l.fn.self ≡ Some s → last_path is_good s ≡ last_up is_good s l.index;
}
