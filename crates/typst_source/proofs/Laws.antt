-- The laws of a parser of blocks, as one record.
use Rattle.std.specs.Prelude.{ℕ, ◌≡◌, ◌<◌, ◌≤◌, List, length, take}
use Rattle.std.specs.Str.{IsUtf8, IsCharBoundary}
use Rattle.typst_node.specs.Text.{text_of_all}
use Rattle.typst_source.specs.Blocks.{Block}

pub record AreLaws (first : List ℕ → Block) : Type 0 where
  pub positive : (text : List ℕ) → 0 < length text → 0 < (first text).len
  pub within : (text : List ℕ) → (first text).len ≤ length text
  pub boundary : (text : List ℕ) → IsUtf8 text → IsCharBoundary text (first text).len
  pub keeps_text : (text : List ℕ) → text_of_all (first text).trees ≡ take (first text).len text
  pub looked : (text : List ℕ) → (first text).len ≤ (first text).reach
  pub local : (text other : List ℕ) → take (first text).reach text ≡ take (first text).reach other → first text ≡ first other
