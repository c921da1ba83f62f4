-- The mode after a node.
use Rattle.std.specs.Prelude.{ℕ, ◌==◌, List, [], ◌∷◌, reverse, Option, None, Some, Bool, false, if◌then◌else◌}
use Rattle.std.specs.Option.{option_and_then}
use Rattle.typst_base.specs.KindMode.{mode_after_of}
use Rattle.typst_base.specs.contracts.kind.SyntaxKind.{the_type}
use Rattle.typst_base.specs.declared.kind.SyntaxKind.{SyntaxKind}
use Rattle.typst_base.specs.declared.kind.SyntaxKind.TheVariants as kinds
use Rattle.typst_base.specs.declared.mode.ModeAfter.{ModeAfter}
use Rattle.typst_base.specs.declared.mode.ModeAfter.TheVariants as rules
use Rattle.typst_base.specs.declared.mode.SyntaxMode.{SyntaxMode}
use Rattle.typst_base.specs.declared.mode.SyntaxMode.TheVariants as modes
use Rattle.typst_node.specs.Tree.{Tree}
use Rattle.typst_linked.specs.Place.{Place, subtree, last_step}
use Rattle.typst_linked.specs.Siblings.{kind_at, before_it, sibling_kind, parent_kind_of}
use denote.Enum.Bare.{sameb}

-- whether there is a kind, and it is this kind
abbrev pub has_kind : SyntaxKind → Option SyntaxKind → Bool
has_kind kind None = false
has_kind kind (Some other) = sameb the_type other kind

-- the mode after the node at a place by the rule of its kind, if `outer` is the mode after its parent
abbrev pub mode_by : ModeAfter → Option SyntaxMode → Place → Option SyntaxMode
mode_by (rules.Known mode) outer place = Some mode
mode_by rules.Parent outer place = outer
mode_by rules.None outer place = None
mode_by rules.Text outer place = if has_kind kinds.Raw (parent_kind_of place) then None else Some modes.Markup
mode_by rules.RawDelim outer place = if last_step place.path == 0 then None else outer
mode_by rules.Dollar outer place = if last_step place.path == 0 then Some modes.Math else outer
mode_by rules.Space outer place = if has_kind kinds.Equation (parent_kind_of place) then Some modes.Math else outer
mode_by rules.Embeddable outer place = if has_kind kinds.Hash (sibling_kind before_it place) then Some modes.Code else outer

-- the mode after the node at a place, if `outer` is the mode after its parent
abbrev pub mode_from : Option SyntaxMode → Place → Option SyntaxMode
mode_from outer place = option_and_then (λ t. mode_by (mode_after_of (kind_at t)) outer place) (subtree place)

-- the same along a path from the root; the path is given from its last step to its first
abbrev pub mode_outwards : Tree → List ℕ → Option SyntaxMode
mode_outwards root [] = mode_from None (record { root = root; path = [] })
mode_outwards root (i ∷ path) = mode_from (mode_outwards root path) (record { root = root; path = reverse (i ∷ path) })

-- the mode after the node at a place
abbrev pub mode_behind : Place → Option SyntaxMode
mode_behind place = mode_outwards place.root (reverse place.path)

-- the mode after its parent; a root has none
abbrev pub outer_mode : Tree → List ℕ → Option SyntaxMode
outer_mode root [] = None
outer_mode root (i ∷ path) = mode_outwards root path

-- the mode after the parent of the node at a place
abbrev pub mode_behind_parent : Place → Option SyntaxMode
mode_behind_parent place = outer_mode place.root (reverse place.path)
