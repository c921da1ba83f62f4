-- An inner node that still counts children that are gone.
use Rattle.std.specs.Prelude.{ℕ, suc, ◌≡◌, ◌+◌, ◌||◌, ◌++◌, take, drop, slice_range}
use Rattle.typst_node.specs.Count.{count_of_all}
use Rattle.typst_node.specs.Diagnosis.{any_has_error, any_has_warning}
use Rattle.typst_node.specs.ChildEnds.{AreStale}
use Rattle.typst_node.specs.declared.node.InnerNode.{InnerNode}
use Rattle.typst_node.specs.declared.node.inner.Sums.{Sums}

-- The node keeps what its children measure, except for `many` children from one index on. In their place it still
-- counts the children that it had up to another index, with these sums.
pub record IsStale (from to many : ℕ) (gone : Sums) (inner : InnerNode) : Type 0 where
  pub descendants : inner.descendants + count_of_all (slice_range inner.children.items from (from + many)) ≡ suc (count_of_all inner.children.items + gone.descendants)
  pub errors : inner.extras.diagnosis.errors ≡ (gone.diagnosis.errors || any_has_error (take from inner.children.items ++ drop (from + many) inner.children.items))
  pub warnings : inner.extras.diagnosis.warnings ≡ (gone.diagnosis.warnings || any_has_warning (take from inner.children.items ++ drop (from + many) inner.children.items))
  pub ends : AreStale from to many gone.len inner.extras.ends inner.children.items
