-- What a tree reads as, whatever its spans and bounds.
use Rattle.std.specs.Prelude.{ℕ, List}
use Rattle.typst_ast.specs.Alike.{ReadsAlike}
use Rattle.typst_node.specs.Tree.{Tree}
use Rattle.typst_node.specs.Preorder.{at}
use Rattle.typst_node.specs.Tells.{TellsAs}

-- The trees have the same text, length, node count and diagnosis, and the same lists of errors and of warnings. At each
-- path, typed views read the same from their nodes, including the names that are bound there.
pub record ReadsAs (t u : Tree) : Type 0 where
  pub tells : TellsAs t u
  pub views : (path : List ℕ) → ReadsAlike (at path t) (at path u)
