-- The nodes that accessors of imports and includes answer.
use Rattle.std.specs.Prelude.{Option}
use Rattle.typst_accessors.specs.declared.node_accessor.ModuleAccessor.{ModuleAccessor}
use Rattle.typst_accessors.specs.declared.node_accessor.ModuleAccessor.TheVariants.{ImportItemPathName, RenamedImportItemPath, RenamedImportItemOriginalName, RenamedImportItemNewName, ModuleImportSource, ModuleImportImports, ModuleImportNewName, ModuleIncludeSource}
use Rattle.typst_ast.specs.Imports.{is_imports_kind}
use Rattle.typst_atoms.specs.ExprKinds.{is_expr_kind}
use Rattle.typst_atoms.specs.Kinds.{is_kind}
use Rattle.typst_base.specs.declared.kind.SyntaxKind.TheVariants as kinds
use Rattle.typst_node.specs.Children.{all_in, behind_first, children_in, first_child, first_of, last_child}
use Rattle.typst_node.specs.Tree.{Tree}

-- the node that an accessor answers of a node of its view, if the tree has it
abbrev pub module_node : ModuleAccessor → Option Tree → Option Tree
module_node ImportItemPathName node = last_child (is_kind kinds.Ident) node
module_node RenamedImportItemPath node = first_child (is_kind kinds.ImportItemPath) node
module_node RenamedImportItemOriginalName node = last_child (is_kind kinds.Ident) (first_child (is_kind kinds.ImportItemPath) node)
module_node RenamedImportItemNewName node = last_child (is_kind kinds.Ident) node
module_node ModuleImportSource node = first_child is_expr_kind node
module_node ModuleImportImports node = first_child is_imports_kind node
module_node ModuleImportNewName node = first_of (all_in (is_kind kinds.Ident) (behind_first (is_kind kinds.As) (children_in node)))
module_node ModuleIncludeSource node = last_child is_expr_kind node
