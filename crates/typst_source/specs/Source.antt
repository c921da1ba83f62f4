-- The tree of a source.
use Rattle.std.specs.Prelude.{ℕ, ◌≡◌, ◌+◌, ◌^◌, ◌≤◌, List}
use Rattle.typst_node.specs.Tree.{Tree}
use Rattle.typst_node.specs.Text.{text}
use Rattle.typst_node.specs.Plain.{plain}
use Rattle.typst_node.specs.Labels.{number, bound}
use Rattle.typst_node.specs.Numbered.{IsNumbered}
use Rattle.typst_node.specs.PlainEdit.{TreeFits}
use Rattle.typst_source.specs.Blocks.{Block, blocks, document}
use Rattle.typst_source.specs.Extents.{extents_of}
use Rattle.typst_source.specs.declared.extents.Extent.{Extent}

-- the root's open numbers are enough for fewer than 2 ^ 46 nodes
abbrev pub IsRoomy : Tree → Type 0
IsRoomy t = number t.label + 2 ^ 46 ≤ bound t.label

-- Apart from spans and bounds, the tree is the one that its text is parsed into. It is numbered and roomy. These are
-- the extents of the text's blocks.
pub record IsParsed (first : List ℕ → Block) (extents : List Extent) (t : Tree) : Type 0 where
  pub fresh : plain t ≡ document first (text t)
  pub numbered : IsNumbered t
  pub roomy : IsRoomy t
  pub extents_are : extents ≡ extents_of (blocks first (text t))

-- the length of a text or the number of nodes of its tree doesn't fit in a usize
abbrev pub IsTooLarge : (List ℕ → Block) → List ℕ → Type 0
IsTooLarge first source = ¬ (TreeFits (document first source))
