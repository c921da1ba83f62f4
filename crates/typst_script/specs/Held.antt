-- The tree that a script holds, tested or not.
use Rattle.typst_node.specs.Tree.{Tree}
use Rattle.typst_script.specs.declared.tree.State.{State}
use Rattle.typst_script.specs.declared.tree.State.TheVariants.{Built, Numbered}

-- the root, whether it was tested or not
abbrev pub tree_held : State → Tree
tree_held (Built root) = root
tree_held (Numbered tree) = tree
