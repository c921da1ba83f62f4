-- The nodes that accessors of code answer.
use Rattle.std.specs.Prelude.{Option}
use Rattle.typst_accessors.specs.declared.node_accessor.CodeAccessor.{CodeAccessor}
use Rattle.typst_accessors.specs.declared.node_accessor.CodeAccessor.TheVariants.{CodeBlockBody, ParenthesizedExpr, ParenthesizedPattern, NamedName, NamedExpr, NamedPattern, KeyedKey, KeyedExpr, SpreadExpr, SpreadSinkIdent, SpreadSinkExpr, UnaryExpr, BinaryLhs, BinaryRhs, FieldAccessTarget, FieldAccessField, FuncCallCallee, FuncCallArgs, ClosureName, ClosureParams, ClosureBody}
use Rattle.typst_ast.specs.Closures.{closure_name}
use Rattle.typst_atoms.specs.Classes.{is_pattern_kind}
use Rattle.typst_atoms.specs.ExprKinds.{is_expr_kind}
use Rattle.typst_atoms.specs.Kinds.{is_kind}
use Rattle.typst_base.specs.declared.kind.SyntaxKind.TheVariants as kinds
use Rattle.typst_node.specs.Children.{first_child, last_child}
use Rattle.typst_node.specs.Tree.{Tree}

-- the node that an accessor answers of a node of its view, if the tree has it
abbrev pub code_node : CodeAccessor → Option Tree → Option Tree
code_node CodeBlockBody node = first_child (is_kind kinds.Code) node
code_node ParenthesizedExpr node = first_child is_expr_kind node
code_node ParenthesizedPattern node = first_child is_pattern_kind node
code_node NamedName node = first_child (is_kind kinds.Ident) node
code_node NamedExpr node = last_child is_expr_kind node
code_node NamedPattern node = last_child is_pattern_kind node
code_node KeyedKey node = first_child is_expr_kind node
code_node KeyedExpr node = last_child is_expr_kind node
code_node SpreadExpr node = first_child is_expr_kind node
code_node SpreadSinkIdent node = first_child (is_kind kinds.Ident) node
code_node SpreadSinkExpr node = first_child is_expr_kind node
code_node UnaryExpr node = last_child is_expr_kind node
code_node BinaryLhs node = first_child is_expr_kind node
code_node BinaryRhs node = last_child is_expr_kind node
code_node FieldAccessTarget node = first_child is_expr_kind node
code_node FieldAccessField node = last_child (is_kind kinds.Ident) node
code_node FuncCallCallee node = first_child is_expr_kind node
code_node FuncCallArgs node = last_child (is_kind kinds.Args) node
code_node ClosureName node = closure_name node
code_node ClosureParams node = first_child (is_kind kinds.Params) node
code_node ClosureBody node = last_child is_expr_kind node
