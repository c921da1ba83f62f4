-- Trees with one plain tree tell the same.
use Rattle.std.proofs.Common.{◌≡◌, length, sym, ap, ◌∙◌}
use Rattle.typst_node.specs.Tree.{Tree}
use Rattle.typst_node.specs.Preorder.{at}
use Rattle.typst_node.specs.Text.{text as text_of}
use Rattle.typst_node.specs.Count.{count as count_of}
use Rattle.typst_node.specs.Diagnosis.{has_error as holds_error, has_warning as holds_warning}
use Rattle.typst_node.specs.Plain.{plain}
use Rattle.typst_node.specs.Tells.{TellsAs}
use Rattle.typst_node.proofs.Plain.{text_plain, count_plain, has_error_plain, has_warning_plain}
use Rattle.typst_node.proofs.EntryLemmas.{at_plain, error_entries_alike, warning_entries_alike}

-- what is measured of the plain tree is the same of trees with one plain tree
alike : {X : Type 0} (of : Tree → X) (on_plain : (t : Tree) → of (plain t) ≡ of t) (t u : Tree) → plain t ≡ plain u → of t ≡ of u
alike of on_plain t u same = sym (on_plain t) ∙ (ap of same ∙ on_plain u)

pub tells_alike : (t u : Tree) → plain t ≡ plain u → TellsAs t u
tells_alike t u same = record {
  text = alike text_of text_plain t u same;
  length = ap length (alike text_of text_plain t u same);
  count = alike count_of count_plain t u same;
  has_error = alike holds_error has_error_plain t u same;
  has_warning = alike holds_warning has_warning_plain t u same;
  errors = error_entries_alike t u same;
  warnings = warning_entries_alike t u same;
  nodes = λ path. sym (at_plain path t) ∙ (ap (at path) same ∙ at_plain path u);
}
