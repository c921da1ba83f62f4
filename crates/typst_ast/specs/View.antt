-- A view of one kind in contracts.
use Rattle.std.specs.Prelude.{Option, true}
use Rattle.std.specs.Option.{option_copied}
use Rattle.typst_ast.specs.declared.view.View.{View}
use Rattle.typst_atoms.specs.View.{atom_node}
use Rattle.typst_atoms.specs.declared.view.View.{View as Atom}
use Rattle.typst_base.specs.declared.kind.SyntaxKind.{SyntaxKind}
use Rattle.typst_node.specs.Tree.{Tree}
use Rattle.typst_node.specs.Views.{IsOptionalViewOf}

-- the node of a view; a placeholder has none
abbrev pub node_of : {M : _} {g : _} → View M g → Option Tree
node_of v = option_copied v.node

-- there is a view of this kind exactly if there is a node, and then it is the view of that node
abbrev pub IsOptionalView : {M : _} {g : _} → SyntaxKind → Option Tree → Option (View M g) → Type 0
IsOptionalView k = IsOptionalViewOf node_of (λ _. k) (λ _. true) k

-- the same for a view from the crate of views of single kinds
abbrev pub IsOptionalAtom : {M : _} {g : _} → SyntaxKind → Option Tree → Option (Atom M g) → Type 0
IsOptionalAtom k = IsOptionalViewOf atom_node (λ _. k) (λ _. true) k
