-- Working form: the blocks that are parsed anew.
use Rattle.std.specs.Prelude.{ℕ, ◌≡◌, ◌+◌, ◌<◌, ◌≤◌, List, length, map, take, drop}
use Rattle.typst_node.specs.Plain.{plain}
use Rattle.typst_source.specs.Blocks.{Block, blocks, trees_of, bytes_of}
use Rattle.typst_source.specs.Extents.{extents_of, bytes_in, AreSums}
use Rattle.typst_source.specs.declared.extents.Extent.{Extent}
use Rattle.typst_source.specs.declared.new_blocks.NewBlocks.{NewBlocks}

-- A block of the text ends `left` bytes before the end of the text, and so does an old block. At most `tail` bytes are
-- left.
abbrev pub Meet : (List ℕ → Block) → List ℕ → List Extent → ℕ → ℕ → ℕ → ℕ → Type 0
Meet first text olds tail many passed left =
    (left ≤ tail) × (left + bytes_of (take many (blocks first text)) ≡ length text) × (bytes_in (drop passed olds) ≡ left)

-- the blocks of a text that were parsed, up to the first place where they meet old ones
pub record AreNewBlocks (first : List ℕ → Block) (text : List ℕ) (olds : List Extent) (tail : ℕ) (w : NewBlocks) : Type 0 where
  pub many : length w.extents.items ≤ length (blocks first text)
  pub extents_are : w.extents.items ≡ extents_of (take (length w.extents.items) (blocks first text))
  pub nodes_are : map plain w.nodes.items ≡ trees_of (take (length w.extents.items) (blocks first text))
  pub passed_are : AreSums olds w.passed
  pub meet : Meet first text olds tail (length w.extents.items) w.passed.blocks w.left
  pub earliest :
      (many passed left : ℕ) → many < length w.extents.items → passed ≤ length olds → Meet first text olds tail many passed left → ⊥
