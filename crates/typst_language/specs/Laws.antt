-- The laws that the first block of a text keeps by any table. These lemmas stand here since the laws of a trait cite them.
use Rattle.std.proofs.Common.{◌≡◌, ℕ, ◌<◌, ◌≤◌, List, length, take}
use Rattle.std.specs.Str.{IsUtf8, IsCharBoundary}
use Rattle.typst_node.specs.Text.{text_of_all}
use Rattle.typst_parser.proofs.FirstBlocks.{block_boundary, block_local, block_looked, block_positive, block_text, block_within}
use Rattle.typst_parser.specs.Rows.{Table}
use Rattle.typst_language.specs.Block.{first_by}

-- a text that isn't empty has a first block that isn't
pub positive_by : (t : Table) (text : List ℕ) → 0 < length text → 0 < (first_by t text).len
positive_by t text some = block_positive t text some

-- a block isn't longer than its text
pub within_by : (t : Table) (text : List ℕ) → (first_by t text).len ≤ length text
within_by t text = block_within t text

-- a block ends between two characters
pub boundary_by : (t : Table) (text : List ℕ) → IsUtf8 text → IsCharBoundary text (first_by t text).len
boundary_by t text utf8 = block_boundary t text utf8

-- the trees of a block have all of its text
pub keeps_text_by : (t : Table) (text : List ℕ) → text_of_all (first_by t text).trees ≡ take (first_by t text).len text
keeps_text_by t text = block_text t text

-- all of a block was looked at
pub looked_by : (t : Table) (text : List ℕ) → (first_by t text).len ≤ (first_by t text).reach
looked_by t text = block_looked t text

-- a block depends on nothing but what was looked at
pub local_by : (t : Table) (text other : List ℕ) → take (first_by t text).reach text ≡ take (first_by t text).reach other
    → first_by t text ≡ first_by t other
local_by t text other same =
    let is = block_local t text other same in
    λ i. record { len = (is i).len; reach = (is i).reach; trees = (is i).trees }
