-- An `ImportItem` in contracts.
use Rattle.std.specs.Prelude.{Option, IfSome, ◌≡◌}
use Rattle.typst_node.specs.Children.{first_child, last_child}
use Rattle.typst_atoms.specs.Kinds.{is_kind}
use Rattle.typst_atoms.specs.OfKind.{kind_from_test}
use Rattle.typst_atoms.specs.View.{atom_node}
use Rattle.typst_atoms.specs.declared.import_items.ImportItem.{ImportItem}
use Rattle.typst_atoms.specs.declared.import_items.ImportItem.TheVariants.{Simple, Renamed}
use Rattle.typst_base.specs.declared.kind.SyntaxKind.{SyntaxKind}
use Rattle.typst_base.specs.declared.kind.SyntaxKind.TheVariants as kinds
use Rattle.typst_node.specs.Tree.{Tree}
use Rattle.typst_node.specs.Views.{node_kind}

-- the node of the item; a placeholder has none
abbrev pub import_item_node : ImportItem → Option Tree
import_item_node (Simple v) = atom_node v
import_item_node (Renamed v) = atom_node v

-- the kind of the item, with or without a node
abbrev pub import_item_kind : ImportItem → SyntaxKind
import_item_kind (Simple v) = kinds.ImportItemPath
import_item_kind (Renamed v) = kinds.RenamedImportItem

-- If the item has a node, its kind is that of the node, as `AstNode` requires.
pub import_item_kind_is_node_kind : (v : ImportItem) → IfSome (import_item_node v) (λ t. import_item_kind v ≡ node_kind t)
import_item_kind_is_node_kind (Simple v) = kind_from_test kinds.ImportItemPath v.node v.of_kind
import_item_kind_is_node_kind (Renamed v) = kind_from_test kinds.RenamedImportItem v.node v.of_kind

-- the node of the path: the item itself, or a renamed item's first child that is a path
abbrev pub item_path : ImportItem → Option Tree
item_path (Simple v) = atom_node v
item_path (Renamed v) = first_child (is_kind kinds.ImportItemPath) (atom_node v)

-- the node of the item's name at the place of the import: the path's last identifier, or the new name of a renamed item
abbrev pub item_bound_name : ImportItem → Option Tree
item_bound_name (Simple v) = last_child (is_kind kinds.Ident) (atom_node v)
item_bound_name (Renamed v) = last_child (is_kind kinds.Ident) (atom_node v)
