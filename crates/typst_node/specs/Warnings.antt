-- Warnings of nodes.
use Rattle.std.specs.Prelude.{ℕ, ◌-◌, ◌^◌, ◌<◌, ◌≤◌, List, [], ◌∷◌, length, Option, Some}
use Rattle.std.specs.declared.ops.Range.{Range}
use Rattle.typst_base.specs.SubRange.{interval, cut_sub_end}
use Rattle.typst_node.specs.Tree.{WarningText, Tree}
use Rattle.typst_node.specs.Text.{text}

-- a warning without hints
abbrev pub warning : Option (Range ℕ) → List ℕ → WarningText
warning sub_range message = record { sub_range = sub_range; message = message; hints = [] }

-- the tree with one more warning at its node, outside the warnings that it has
abbrev pub warned : WarningText → Tree → Tree
warned w t = record t { label = record t.label { warnings = w ∷ t.label.warnings } }

-- a range of a node's bytes that isn't empty, and whose start fits a sub-range
pub record FitsRange (range : Range ℕ) (t : Tree) : Type 0 where
  pub some : range.start < range.end
  pub inside : range.end ≤ length (text t)
  pub small : range.start < 2 ^ 32 - 1

-- the sub-range for a range, with its end cut to the largest end of a sub-range
abbrev pub part_for : Range ℕ → Option (Range ℕ)
part_for range = Some (interval range.start (cut_sub_end range.end))
