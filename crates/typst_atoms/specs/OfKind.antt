-- What a view of one kind knows about its node.
use Rattle.std.specs.Prelude.{Option, Some, None, Bool, true, IsTrue, IfSome, ◌≡◌}
use Rattle.std.specs.Option.{option_copied}
use Rattle.std.proofs.Common.{sym}
use Rattle.typst_base.specs.contracts.kind.SyntaxKind.{the_type}
use Rattle.typst_base.specs.declared.kind.SyntaxKind.{SyntaxKind}
use Rattle.typst_node.specs.Tree.{Tree}
use Rattle.typst_node.specs.Views.{node_kind}
use Rattle.typst_atoms.specs.Kinds.{is_kind}
use denote.Enum.Bare.{same_true}
use denote.Ref.{Bor}

-- the node, if there is one, is of the kind
abbrev pub is_missing_or_of_kind : SyntaxKind → Option (Bor Tree) → Bool
is_missing_or_of_kind k (Some node) = is_kind k (node_kind node.now)
is_missing_or_of_kind k None = true

-- the node, if there is one, has that kind
pub kind_from_test : (k : SyntaxKind) (node : Option (Bor Tree)) → IsTrue (is_missing_or_of_kind k node) → IfSome (option_copied node) (λ t. k ≡ node_kind t)
kind_from_test k (Some node) h = sym (same_true the_type tt (node_kind node.now) k h)
kind_from_test k None h = tt
