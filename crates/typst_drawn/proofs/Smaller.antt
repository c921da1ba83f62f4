-- A child is smaller than its parent, so that words for a tree end.
use Rattle.std.specs.Prelude.{ℕ, ◌<◌, ◌+◌, suc, zero, length}
use Rattle.std.proofs.Common.{arith, get_or}
use Rattle.typst_node.specs.Tree.{Tree, Forest, none, tree, trees}

-- how many nodes are in the trees
abbrev pub size : Forest → ℕ
size none = 0
size (tree label children rest) = suc (size children + size rest)

pub child_smaller : (f : Forest) (i : ℕ) (d : Tree) → i < length (trees f) → size (get_or (trees f) i d).children < size f
child_smaller none i d h = absurd (omega arith)
child_smaller (tree label children rest) zero d h = omega arith
child_smaller (tree label children rest) (suc i) d h = omega (arith, child_smaller rest i d (omega arith))
