-- An `Arg` in contracts.
use Rattle.std.specs.Prelude.{Option, Some, IfSome, true, ◌≡◌}
use Rattle.typst_ast.specs.ExprTable.{expr_node, expr_kind, expr_kind_is_node_kind}
use Rattle.typst_ast.specs.View.{node_of}
use Rattle.typst_ast.specs.declared.arg.Arg.{Arg}
use Rattle.typst_ast.specs.declared.arg.Arg.TheVariants.{Pos, Named, Spread}
use Rattle.typst_atoms.specs.Classes.{is_arg_kind}
use Rattle.typst_atoms.specs.OfKind.{kind_from_test}
use Rattle.typst_base.specs.declared.kind.SyntaxKind.{SyntaxKind}
use Rattle.typst_base.specs.declared.kind.SyntaxKind.TheVariants as kinds
use Rattle.typst_node.specs.Tree.{Tree}
use Rattle.typst_node.specs.Views.{node_kind}

-- the node of the argument; a placeholder has none
abbrev pub arg_node : Arg → Option Tree
arg_node (Pos v) = expr_node v
arg_node (Named v) = node_of v
arg_node (Spread v) = node_of v

-- the kind of the argument, with or without a node; it determines the variant
abbrev pub arg_kind : Arg → SyntaxKind
arg_kind (Pos v) = expr_kind v
arg_kind (Named v) = kinds.Named
arg_kind (Spread v) = kinds.Spread

-- If the argument has a node, its kind is that of the node, as `AstNode` requires.
pub arg_kind_is_node_kind : (v : Arg) → IfSome (arg_node v) (λ t. arg_kind v ≡ node_kind t)
arg_kind_is_node_kind (Pos v) = expr_kind_is_node_kind v
arg_kind_is_node_kind (Named v) = kind_from_test kinds.Named v.node v.of_kind
arg_kind_is_node_kind (Spread v) = kind_from_test kinds.Spread v.node v.of_kind

-- the node is an argument, and the `Arg` is the view of that node
abbrev pub IsProperArgOf : Tree → Arg → Type 0
IsProperArgOf t arg = (is_arg_kind (node_kind t) ≡ true) × (arg_node arg ≡ Some t) × (arg_kind arg ≡ node_kind t)
