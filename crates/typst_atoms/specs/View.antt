-- A view of one kind in contracts.
use Rattle.std.specs.Prelude.{Option, None, MatchOption, ◌≡◌, ◌≢◌}
use Rattle.std.specs.Option.{option_copied}
use Rattle.typst_atoms.specs.declared.view.View.{View}
use Rattle.typst_node.specs.Tree.{Tree}

-- the node of a view; a placeholder has none
abbrev pub atom_node : {M : _} {g : _} → View M g → Option Tree
atom_node v = option_copied v.node

-- an optional view of one kind: there is one exactly if the node is there, and then it is the view of that node
abbrev pub IsOptionalView : {M : _} {g : _} → Option Tree → Option (View M g) → Type 0
IsOptionalView tree view = MatchOption view (tree ≡ None) (λ v. (tree ≢ None) × (atom_node v ≡ tree))
