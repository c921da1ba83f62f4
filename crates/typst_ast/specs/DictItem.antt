-- A `DictItem` in contracts.
use Rattle.std.specs.Prelude.{Option, IfSome, ◌≡◌}
use Rattle.typst_ast.specs.View.{node_of}
use Rattle.typst_ast.specs.declared.dict_item.DictItem.{DictItem}
use Rattle.typst_ast.specs.declared.dict_item.DictItem.TheVariants.{Named, Keyed, Spread}
use Rattle.typst_atoms.specs.OfKind.{kind_from_test}
use Rattle.typst_base.specs.declared.kind.SyntaxKind.{SyntaxKind}
use Rattle.typst_base.specs.declared.kind.SyntaxKind.TheVariants as kinds
use Rattle.typst_node.specs.Tree.{Tree}
use Rattle.typst_node.specs.Views.{node_kind}

-- the node of the item; a placeholder has none
abbrev pub dict_item_node : DictItem → Option Tree
dict_item_node (Named v) = node_of v
dict_item_node (Keyed v) = node_of v
dict_item_node (Spread v) = node_of v

-- the kind of the item, with or without a node; it determines the variant
abbrev pub dict_item_kind : DictItem → SyntaxKind
dict_item_kind (Named v) = kinds.Named
dict_item_kind (Keyed v) = kinds.Keyed
dict_item_kind (Spread v) = kinds.Spread

-- If the item has a node, its kind is that of the node, as `AstNode` requires.
pub dict_item_kind_is_node_kind : (v : DictItem) → IfSome (dict_item_node v) (λ t. dict_item_kind v ≡ node_kind t)
dict_item_kind_is_node_kind (Named v) = kind_from_test kinds.Named v.node v.of_kind
dict_item_kind_is_node_kind (Keyed v) = kind_from_test kinds.Keyed v.node v.of_kind
dict_item_kind_is_node_kind (Spread v) = kind_from_test kinds.Spread v.node v.of_kind
