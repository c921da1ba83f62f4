-- The nodes that accessors of math answer.
use Rattle.std.specs.Prelude.{Option}
use Rattle.typst_accessors.specs.declared.node_accessor.MathAccessor.{MathAccessor}
use Rattle.typst_accessors.specs.declared.node_accessor.MathAccessor.TheVariants.{EquationBody, MathFieldAccessTarget, MathFieldAccessField, MathCallCallee, MathCallArgs, MathDelimitedOpen, MathDelimitedBody, MathDelimitedClose, MathAttachBase, MathAttachBottom, MathAttachTop, MathAttachPrimes, MathFracNum, MathFracDenom, MathRootRadicand}
use Rattle.typst_ast.specs.Lists.{of_class}
use Rattle.typst_atoms.specs.ExprKinds.{is_expr_kind}
use Rattle.typst_atoms.specs.Kinds.{is_kind, is_math_access_kind}
use Rattle.typst_base.specs.declared.kind.SyntaxKind.TheVariants as kinds
use Rattle.typst_node.specs.Children.{all_in, behind_first, children_in, first_child, first_of, last_child}
use Rattle.typst_node.specs.Tree.{Tree}

-- the node that an accessor answers of a node of its view, if the tree has it
abbrev pub math_node : MathAccessor → Option Tree → Option Tree
math_node EquationBody node = first_child (is_kind kinds.Math) node
math_node MathFieldAccessTarget node = first_child is_math_access_kind node
math_node MathFieldAccessField node = last_child (is_kind kinds.MathIdent) node
math_node MathCallCallee node = first_child is_math_access_kind node
math_node MathCallArgs node = last_child (is_kind kinds.MathArgs) node
math_node MathDelimitedOpen node = first_child is_expr_kind node
math_node MathDelimitedBody node = first_child (is_kind kinds.Math) node
math_node MathDelimitedClose node = last_child is_expr_kind node
math_node MathAttachBase node = first_child is_expr_kind node
math_node MathAttachBottom node = first_of (all_in is_expr_kind (behind_first (is_kind kinds.Underscore) (children_in node)))
math_node MathAttachTop node = first_of (all_in is_expr_kind (behind_first (is_kind kinds.Hat) (children_in node)))
math_node MathAttachPrimes node = of_class (is_kind kinds.MathPrimes) (first_of (behind_first is_expr_kind (children_in node)))
math_node MathFracNum node = first_child is_expr_kind node
math_node MathFracDenom node = last_child is_expr_kind node
math_node MathRootRadicand node = first_child is_expr_kind node
