-- How numbering changes a whole tree, and when there are too few numbers for it.
use Rattle.std.specs.Prelude.{ℕ, ◌≡◌, ◌+◌, ◌-◌, ◌*◌, ◌/◌, ◌<◌, ◌≤◌, ◌⊎◌}
use Rattle.typst_node.specs.Tree.{Tree, IsInner}
use Rattle.typst_node.specs.Count.{count}
use Rattle.typst_node.specs.Labels.{number, bound}
use Rattle.typst_node.specs.Numbered.{IsNumberedFor, AllIn, halfway}
use Rattle.typst_node.specs.Plain.{plain}

-- the range is empty, or has fewer numbers than the tree has nodes
abbrev pub IsTooShort : Tree → ℕ → ℕ → Type 0
IsTooShort tree low high = (high ≤ low) ⊎ (high - low < count tree)

-- The tree is numbered for the file within the range, and is the same apart from spans and bounds. The bound of an
-- inner node is the end of the range, and a leaf or an error has the middle number of the range. If the range has at
-- least two numbers for each node, an inner tree takes no number of its second half.
pub record IsNumbering (file low high : ℕ) (old new : Tree) : Type 0 where
  pub numbered : IsNumberedFor file new
  pub within : AllIn low high new
  pub bound : IsInner old.label.content → bound new.label ≡ high
  pub middle : ¬ (IsInner old.label.content) → number new.label ≡ (low + high) / 2
  pub first_half : IsInner old.label.content → 2 * count old ≤ high - low → AllIn low (halfway low high) new
  pub plain : plain new ≡ plain old
