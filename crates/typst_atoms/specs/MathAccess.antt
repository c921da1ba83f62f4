-- A `MathAccess` in contracts.
use Rattle.std.specs.Prelude.{true, Option, IfSome, ◌≡◌}
use Rattle.typst_atoms.specs.OfKind.{kind_from_test}
use Rattle.typst_atoms.specs.View.{atom_node}
use Rattle.typst_atoms.specs.declared.math_access.MathAccess.{MathAccess}
use Rattle.typst_atoms.specs.declared.math_access.MathAccess.TheVariants.{MathIdent, MathFieldAccess}
use Rattle.typst_base.specs.declared.kind.SyntaxKind.{SyntaxKind}
use Rattle.typst_base.specs.declared.kind.SyntaxKind.TheVariants as kinds
use Rattle.typst_node.specs.Tree.{Tree}
use Rattle.typst_node.specs.Views.{node_kind, IsViewOf}

-- the node of the access; a placeholder has none
abbrev pub math_access_node : MathAccess → Option Tree
math_access_node (MathIdent v) = atom_node v
math_access_node (MathFieldAccess v) = atom_node v

-- the kind of the access, with or without a node
abbrev pub math_access_kind : MathAccess → SyntaxKind
math_access_kind (MathIdent v) = kinds.MathIdent
math_access_kind (MathFieldAccess v) = kinds.MathFieldAccess

-- If the access has a node, its kind is that of the node, as `AstNode` requires.
pub math_access_kind_is_node_kind : (v : MathAccess) → IfSome (math_access_node v) (λ t. math_access_kind v ≡ node_kind t)
math_access_kind_is_node_kind (MathIdent v) = kind_from_test kinds.MathIdent v.node v.of_kind
math_access_kind_is_node_kind (MathFieldAccess v) = kind_from_test kinds.MathFieldAccess v.node v.of_kind

-- the `MathAccess` is that of this node, or the placeholder if there is no node
abbrev pub IsMathAccessOf : Option Tree → MathAccess → Type 0
IsMathAccessOf = IsViewOf math_access_node math_access_kind (λ _. true) kinds.MathIdent
