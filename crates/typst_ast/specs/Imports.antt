-- The items that an import brings in.
use Rattle.std.specs.Prelude.{Bool, ◌||◌, Option, Some, None, ◌≡◌}
use Rattle.typst_ast.specs.declared.imports.Imports.{Imports}
use Rattle.typst_ast.specs.declared.imports.Imports.TheVariants.{Wildcard, Items}
use Rattle.typst_atoms.specs.Kinds.{is_kind}
use Rattle.typst_atoms.specs.View.{atom_node}
use Rattle.typst_base.specs.declared.kind.SyntaxKind.{SyntaxKind}
use Rattle.typst_base.specs.declared.kind.SyntaxKind.TheVariants as kinds
use Rattle.typst_node.specs.Tree.{Tree}
use Rattle.typst_node.specs.Views.{node_kind}

-- a star, or import items
abbrev pub is_imports_kind : SyntaxKind → Bool
is_imports_kind k = is_kind kinds.Star k || is_kind kinds.ImportItems k

-- the imports of such a node: everything for a star, the items for import items, and none if there is no node
abbrev pub IsImportsOf : Option Tree → Option Imports → Type 0
IsImportsOf None imports = imports ≡ None
IsImportsOf (Some t) None = ⊥
IsImportsOf (Some t) (Some Wildcard) = node_kind t ≡ kinds.Star
IsImportsOf (Some t) (Some (Items items)) = atom_node items ≡ Some t
