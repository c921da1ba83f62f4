-- A parent's path is shorter than its child's. This lemma stands here since a law of a trait cites it.
use Rattle.std.specs.Prelude.{ℕ, ◌+◌, ◌≤◌, max, Option, None, Some, length, ◌∷◌, []}
use Rattle.std.proofs.Common.{arith, length-append}
use Rattle.std.specs.declared.rc.Rc.{Rc}
use Rattle.std.specs.declared.alloc.Global.{Global}
use Rattle.typst_node.specs.Tree.{Tree}
use Rattle.typst_linked.specs.Place.{Place}
use Rattle.typst_linked.specs.Linked.{place_below}
use Rattle.typst_linked.specs.declared.node.LinkedNode.{LinkedNode}
use Rattle.typst_linked.specs.declared.node.LinkedNode.TheView.{size}
use Rattle.typst_linked.specs.declared.node.LinkedNode.TheShapes.{weighed-LinkedNode-parent}

-- a node's path is longer than that of its parent, if it has one
pub parent_is_less : (n : Tree) (i : ℕ) (parent : Option (Rc Place Global)) → max ((weighed-LinkedNode-parent).weight LinkedNode (λ y. size y + 1) parent) 0 ≤ length (place_below n i parent).path
parent_is_less n i None = omega arith
parent_is_less n i (Some p) = omega (arith, length-append p.value.path (i ∷ []))
