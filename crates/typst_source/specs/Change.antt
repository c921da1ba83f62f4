-- Working form: how a cut changes the extents of blocks and the children of a root.
use Rattle.std.specs.Prelude.{ℕ, ◌≡◌, ◌≤◌, List, length}
use Rattle.std.specs.List.{splice}
use Rattle.typst_node.specs.Tree.{Tree, IsInner}
use Rattle.typst_node.specs.Text.{text}
use Rattle.typst_node.specs.Plain.{plain}
use Rattle.typst_node.specs.PlainEdit.{edited, RangeFits}
use Rattle.typst_source.specs.Blocks.{Block, blocks, document}
use Rattle.typst_source.specs.Extents.{extents_of, IsBeginning}
use Rattle.typst_source.specs.Reparsed.{AreReparsed, AreSeams}
use Rattle.typst_source.specs.declared.cut.Cut.{Cut}
use Rattle.typst_source.specs.declared.extents.Extent.{Extent}
use Rattle.typst_source.specs.declared.parsed.Change.{Change}

-- the change fits the extents and the children, and turns them into those of the new text
pub record IsChange (first : List ℕ → Block) (extents : List Extent) (root : Tree) (new : List ℕ) (cut : Cut) (change : Change) : Type 0 where
  pub inner : IsInner root.label.content
  pub fits : RangeFits change.children.start change.children.end root
  pub fresh : plain (edited change.children.start change.children.end change.nodes.items root) ≡ document first new
  pub beginning : IsBeginning extents change.kept
  pub ordered : change.kept.sums.blocks ≤ change.upto
  pub inside : change.upto ≤ length extents
  pub extents_are : splice extents change.kept.sums.blocks change.upto change.extents.items ≡ extents_of (blocks first new)
  pub reparsed : AreReparsed first (text root) new cut change.reparsed
  pub seams : AreSeams first (text root) new cut change.reparsed change.children.start change.children.end (length change.nodes.items)
