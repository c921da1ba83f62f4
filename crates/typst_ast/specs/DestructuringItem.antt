-- A `DestructuringItem` in contracts.
use Rattle.std.specs.Prelude.{Option, IfSome, Bool, true, ◌≡◌}
use Rattle.typst_ast.specs.Pattern.{pattern_node, pattern_kind, pattern_kind_is_node_kind, is_proper_pattern}
use Rattle.typst_ast.specs.View.{node_of}
use Rattle.typst_ast.specs.declared.destructuring_item.DestructuringItem.{DestructuringItem}
use Rattle.typst_ast.specs.declared.destructuring_item.DestructuringItem.TheVariants.{Pattern as PatternItem, Named, Spread}
use Rattle.typst_atoms.specs.OfKind.{kind_from_test}
use Rattle.typst_base.specs.declared.kind.SyntaxKind.{SyntaxKind}
use Rattle.typst_base.specs.declared.kind.SyntaxKind.TheVariants as kinds
use Rattle.typst_node.specs.Tree.{Tree}
use Rattle.typst_node.specs.Views.{node_kind}

-- the node of the item; a placeholder has none
abbrev pub destructuring_item_node : DestructuringItem → Option Tree
destructuring_item_node (PatternItem v) = pattern_node v
destructuring_item_node (Named v) = node_of v
destructuring_item_node (Spread v) = node_of v

-- the kind of the item, with or without a node
abbrev pub destructuring_item_kind : DestructuringItem → SyntaxKind
destructuring_item_kind (PatternItem v) = pattern_kind v
destructuring_item_kind (Named v) = kinds.Named
destructuring_item_kind (Spread v) = kinds.Spread

-- If the item has a node, its kind is that of the node, as `AstNode` requires.
pub destructuring_item_kind_is_node_kind : (v : DestructuringItem) → IfSome (destructuring_item_node v) (λ t. destructuring_item_kind v ≡ node_kind t)
destructuring_item_kind_is_node_kind (PatternItem v) = pattern_kind_is_node_kind v
destructuring_item_kind_is_node_kind (Named v) = kind_from_test kinds.Named v.node v.of_kind
destructuring_item_kind_is_node_kind (Spread v) = kind_from_test kinds.Spread v.node v.of_kind

-- the item has the proper form of a pattern
abbrev pub is_proper_destructuring_item : DestructuringItem → Bool
is_proper_destructuring_item (PatternItem v) = is_proper_pattern v
is_proper_destructuring_item (Named v) = true
is_proper_destructuring_item (Spread v) = true
