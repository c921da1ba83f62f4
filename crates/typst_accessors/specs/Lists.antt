-- The nodes that an accessor answers by their indices.
use Rattle.std.specs.Prelude.{List, map, Option}
use Rattle.typst_accessors.specs.declared.nodes_accessor.NodesAccessor.{NodesAccessor}
use Rattle.typst_accessors.specs.declared.nodes_accessor.NodesAccessor.TheVariants.{MarkupExprs, MathExprs, CodeExprs, RawLines, MathArgsContentItems, MathArgsArgItems, ArrayItems, DictItems, DestructuringItems, ArgsItems, ParamsChildren, ImportItemsIter, ImportItemPathIter}
use Rattle.typst_ast.specs.Exprs.{is_expr_or_space_kind, markup_exprs}
use Rattle.typst_ast.specs.Kinds.{is_array_item_kind, is_dict_item_kind, is_param_kind}
use Rattle.typst_atoms.specs.Classes.{is_arg_kind, is_destructuring_item_kind}
use Rattle.typst_atoms.specs.ExprKinds.{is_expr_kind}
use Rattle.typst_atoms.specs.Kinds.{is_import_item_kind, is_kind}
use Rattle.typst_atoms.specs.MathItems.{args_in, content_items}
use Rattle.typst_base.specs.declared.kind.SyntaxKind.TheVariants as kinds
use Rattle.typst_node.specs.Children.{all_children, children_in}
use Rattle.typst_node.specs.Tree.{Tree}

-- the nodes that an accessor answers of a node of its view, in order
abbrev pub nodes_answered : NodesAccessor → Option Tree → List Tree
nodes_answered MarkupExprs node = markup_exprs (children_in node)
nodes_answered MathExprs node = all_children is_expr_or_space_kind node
nodes_answered CodeExprs node = all_children is_expr_kind node
nodes_answered RawLines node = all_children (is_kind kinds.Text) node
nodes_answered MathArgsContentItems node = content_items (children_in node)
nodes_answered MathArgsArgItems node = map (λ p. p.0) (args_in (content_items (children_in node)))
nodes_answered ArrayItems node = all_children is_array_item_kind node
nodes_answered DictItems node = all_children is_dict_item_kind node
nodes_answered DestructuringItems node = all_children is_destructuring_item_kind node
nodes_answered ArgsItems node = all_children is_arg_kind node
nodes_answered ParamsChildren node = all_children is_param_kind node
nodes_answered ImportItemsIter node = all_children is_import_item_kind node
nodes_answered ImportItemPathIter node = all_children (is_kind kinds.Ident) node
