-- Working form: the extents of blocks, and their sums.
use Rattle.std.specs.Prelude.{ℕ, ◌≡◌, ◌+◌, ◌<◌, ◌≤◌, List, length, map, take}
use Rattle.typst_source.specs.Blocks.{Block, total, reach_by}
use Rattle.typst_source.specs.declared.extents.Beginning.{Beginning}
use Rattle.typst_source.specs.declared.extents.Extent.{Extent}
use Rattle.typst_source.specs.declared.extents.Sums.{Sums}

-- how many bytes and trees a block has, and how far its parser looked
abbrev pub extent_of : Block → Extent
extent_of b = record { bytes = b.len; nodes = length b.trees; reach = b.reach }

-- the extents of blocks, in order
abbrev pub extents_of : List Block → List Extent
extents_of bs = map extent_of bs

-- how many bytes the extents have together
abbrev pub bytes_in : List Extent → ℕ
bytes_in es = total (λ (e : Extent). e.bytes) es

-- how many trees the extents have together
abbrev pub nodes_in : List Extent → ℕ
nodes_in es = total (λ (e : Extent). e.nodes) es

-- how far the parser looked for any of the extents
abbrev pub reach_in : List Extent → ℕ
reach_in es = reach_by (λ (e : Extent). e.bytes) (λ (e : Extent). e.reach) es

-- the sums of the first `sums.blocks` extents
pub record AreSums (extents : List Extent) (sums : Sums) : Type 0 where
  pub within : sums.blocks ≤ length extents
  pub bytes : sums.bytes ≡ bytes_in (take sums.blocks extents)
  pub nodes : sums.nodes ≡ nodes_in (take sums.blocks extents)

-- the sums of the longest beginning of the extents for which the parser looked at no byte from `start` on
pub record AreUntouched (extents : List Extent) (start : ℕ) (sums : Sums) : Type 0 where
  pub sums_are : AreSums extents sums
  pub before : reach_in (take sums.blocks extents) ≤ start
  pub most : sums.blocks < length extents → start < reach_in (take (sums.blocks + 1) extents)

-- the sums of a beginning of the extents, and how far the parser looked for it
pub record IsBeginning (extents : List Extent) (beginning : Beginning) : Type 0 where
  pub sums_are : AreSums extents beginning.sums
  pub reach_is : beginning.reach ≡ reach_in (take beginning.sums.blocks extents)

-- the extents of a text's blocks, and how many extents the allocated memory can hold
pub record ExtentList : Type 0 where
  pub items : List Extent
  pub room : ℕ
