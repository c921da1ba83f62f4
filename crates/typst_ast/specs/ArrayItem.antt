-- An `ArrayItem` in contracts.
use Rattle.std.specs.Prelude.{Option, IfSome, ◌≡◌}
use Rattle.typst_ast.specs.ExprTable.{expr_node, expr_kind, expr_kind_is_node_kind}
use Rattle.typst_ast.specs.View.{node_of}
use Rattle.typst_ast.specs.declared.array_item.ArrayItem.{ArrayItem}
use Rattle.typst_ast.specs.declared.array_item.ArrayItem.TheVariants.{Pos, Spread}
use Rattle.typst_atoms.specs.OfKind.{kind_from_test}
use Rattle.typst_base.specs.declared.kind.SyntaxKind.{SyntaxKind}
use Rattle.typst_base.specs.declared.kind.SyntaxKind.TheVariants as kinds
use Rattle.typst_node.specs.Tree.{Tree}
use Rattle.typst_node.specs.Views.{node_kind}

-- the node of the item; a placeholder has none
abbrev pub array_item_node : ArrayItem → Option Tree
array_item_node (Pos v) = expr_node v
array_item_node (Spread v) = node_of v

-- the kind of the item, with or without a node; it determines the variant
abbrev pub array_item_kind : ArrayItem → SyntaxKind
array_item_kind (Pos v) = expr_kind v
array_item_kind (Spread v) = kinds.Spread

-- If the item has a node, its kind is that of the node, as `AstNode` requires.
pub array_item_kind_is_node_kind : (v : ArrayItem) → IfSome (array_item_node v) (λ t. array_item_kind v ≡ node_kind t)
array_item_kind_is_node_kind (Pos v) = expr_kind_is_node_kind v
array_item_kind_is_node_kind (Spread v) = kind_from_test kinds.Spread v.node v.of_kind
