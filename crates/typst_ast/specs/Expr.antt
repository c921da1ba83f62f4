-- An `Expr` in contracts.
use Rattle.std.specs.Prelude.{Option, true}
use Rattle.typst_ast.specs.ExprTable.{expr_kind, expr_node}
use Rattle.typst_ast.specs.declared.expr.Expr.{Expr}
use Rattle.typst_base.specs.declared.kind.SyntaxKind.TheVariants as kinds
use Rattle.typst_node.specs.Tree.{Tree}
use Rattle.typst_node.specs.Views.{IsViewOf, IsOptionalViewOf}

-- the `Expr` is that of this node, or the placeholder if there is no node
abbrev pub IsExprOf : Option Tree → Expr → Type 0
IsExprOf = IsViewOf expr_node expr_kind (λ _. true) kinds.None

-- there is an `Expr` exactly if there is a node, and then it is that of the node
abbrev pub IsOptionalExprOf : Option Tree → Option Expr → Type 0
IsOptionalExprOf = IsOptionalViewOf expr_node expr_kind (λ _. true) kinds.None
