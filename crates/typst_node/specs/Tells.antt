-- What a tree tells apart from its spans and bounds.
use Rattle.std.specs.Prelude.{ℕ, ◌≡◌, List, length, option_map}
use Rattle.typst_node.specs.Tree.{Tree}
use Rattle.typst_node.specs.Preorder.{at}
use Rattle.typst_node.specs.Text.{text as text_of}
use Rattle.typst_node.specs.Count.{count}
use Rattle.typst_node.specs.Diagnosis.{has_error, has_warning}
use Rattle.typst_node.specs.Entries.{error_entries, warning_entries}
use Rattle.typst_node.specs.Plain.{plain}

-- The trees have the same text, length, node count and diagnosis, and the same lists of errors and of warnings. Each
-- path leads to a node in both trees or in none, and the two nodes have the same plain tree.
pub record TellsAs (t u : Tree) : Type 0 where
  pub text : text_of t ≡ text_of u
  pub length : length (text_of t) ≡ length (text_of u)
  pub count : count t ≡ count u
  pub has_error : has_error t ≡ has_error u
  pub has_warning : has_warning t ≡ has_warning u
  pub errors : error_entries t ≡ error_entries u
  pub warnings : warning_entries t ≡ warning_entries u
  pub nodes : (path : List ℕ) → option_map plain (at path t) ≡ option_map plain (at path u)
