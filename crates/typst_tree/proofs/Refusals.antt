-- In a numbered tree each node has a file id.
use Rattle.std.proofs.Common.{ℕ, List, arith}
use Rattle.typst_node.specs.Tree.{Tree}
use Rattle.typst_node.specs.Numbered.{IsNumbered}
use Rattle.typst_node.specs.Paths.{IsPath, tree_at}
use Rattle.typst_node.specs.Edit.{IsUnfiled}
use Rattle.typst_node.proofs.AnotherTree.{numbered_at}

pub filed_at : (path : List ℕ) (t : Tree) → IsPath path t → IsNumbered t → ¬ (IsUnfiled (tree_at path t))
filed_at path t there numbered none =
    let at = numbered_at path t there numbered in
    omega (arith, at.1, none, at.2.in_file.0.0)
