-- The text of a view.
use Rattle.std.specs.Prelude.{ℕ, List, [], Option, Some, None}
use Rattle.typst_node.specs.Text.{own_text}
use Rattle.typst_node.specs.Tree.{Tree}

-- the leaf text of a node; it is empty for an inner node, and if there is no node
abbrev pub text_in : Option Tree → List ℕ
text_in (Some t) = own_text t.label
text_in None = []
