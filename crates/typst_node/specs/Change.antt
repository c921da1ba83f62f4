-- What the program records of a change of children.
use Rattle.std.specs.Prelude.{ℕ, ◌≡◌, List, length, slice_range}
use Rattle.std.specs.List.{splice}
use Rattle.typst_node.specs.Tree.{Tree}
use Rattle.typst_node.specs.Count.{SumsFit}
use Rattle.typst_node.specs.Sums.{AreSums}
use Rattle.typst_node.specs.declared.node.settle.Change.{Change}

-- the change replaces the children from one index up to another by others; it holds the sums of both, and the parent's
-- sums fit afterwards
pub record IsChange (from to : ℕ) (ts others : List Tree) (c : Change) : Type 0 where
  pub from_is : c.from ≡ from
  pub to_is : c.to ≡ to
  pub many : c.many ≡ length others
  pub gone : AreSums c.gone (slice_range ts from to)
  pub added : AreSums c.added others
  pub fits : SumsFit (splice ts from to others)
