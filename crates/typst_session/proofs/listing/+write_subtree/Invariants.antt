use Rattle.std.proofs.Common.{◌≡◌, ◌+◌, ◌∷◌, suc, take, drop}
use Rattle.std.specs.List.{AllZip}
use Rattle.typst_node.specs.Tree.{forest}
use Rattle.typst_node.specs.Count.{count, count_of_all}
use Rattle.typst_node.specs.Preorder.{subtrees_of}
use Rattle.typst_session.specs.Reading.{IsInfo}
use Rattle.typst_session.proofs.listing.+write_subtree.Given as goal

abbrev pub decreases-write_subtree : goal.decreases-write_subtree
decreases-write_subtree l = count l.node.now

abbrev pub invariant-loop-child : goal.invariant-loop-child
invariant-loop-child l =
    (l.next ≡ l.at + suc (count_of_all (take l.child-index l.child-items)))
    × (take l.at l.out ≡ take l.at l.fn.out)
    × AllZip IsInfo (l.node ∷ subtrees_of (forest (take l.child-index l.child-items)))
    (take (suc (count_of_all (take l.child-index l.child-items))) (drop l.at l.out))
    × (drop (l.at + count l.node) l.out ≡ drop (l.at + count l.node) l.fn.out)
