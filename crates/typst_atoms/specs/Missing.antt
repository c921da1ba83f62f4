-- Nodes that may be missing.
use Rattle.std.specs.Prelude.{Bool, false, Option, Some, None}
use Rattle.typst_atoms.specs.Kinds.{is_kind}
use Rattle.typst_base.specs.declared.kind.SyntaxKind.{SyntaxKind}
use Rattle.typst_node.specs.Tree.{Tree}
use Rattle.typst_node.specs.Views.{node_kind}

-- there is a node, and it is of the kind
abbrev pub is_of_kind : SyntaxKind → Option Tree → Bool
is_of_kind k (Some t) = is_kind k (node_kind t)
is_of_kind k None = false
