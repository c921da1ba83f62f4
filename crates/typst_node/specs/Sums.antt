-- The sums over trees.
use Rattle.std.specs.Prelude.{◌≡◌, List, length}
use Rattle.typst_node.specs.Tree.{Tree}
use Rattle.typst_node.specs.Text.{text_of_all}
use Rattle.typst_node.specs.Count.{count_of_all}
use Rattle.typst_node.specs.Diagnosis.{any_has_error, any_has_warning}
use Rattle.typst_node.specs.declared.node.inner.Sums.{Sums}

-- the length of the text of all these trees, the number of their nodes, and their diagnosis
pub record AreSums (s : Sums) (ts : List Tree) : Type 0 where
  pub len : s.len ≡ length (text_of_all ts)
  pub descendants : s.descendants ≡ count_of_all ts
  pub errors : s.diagnosis.errors ≡ any_has_error ts
  pub warnings : s.diagnosis.warnings ≡ any_has_warning ts
