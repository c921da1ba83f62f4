-- The reasons to refuse an edit that fits.
use Rattle.std.specs.Prelude.{◌-◌, ◌<◌, ◌⊎◌, length}
use Rattle.typst_node.specs.Tree.{Tree}
use Rattle.typst_node.specs.Paths.{tree_at}
use Rattle.typst_node.specs.PlainEdit.{TreeFits}
use Rattle.typst_node.specs.Edit.{Edit, Fits, IsUnfiled, edited_by, site_by}
use Rattle.typst_node.specs.FirstWindow.{HasNoFirst, IsCrowded}
use Rattle.typst_node.specs.declared.node.replace.ReplaceError.{ReplaceError}
use Rattle.typst_node.specs.declared.node.replace.ReplaceError.TheVariants.{Unnumberable, Overflow, Memory}

-- the edited node has no file id; or no window of its children has room, and its open numbers are fewer than its nodes
-- after the edit
abbrev pub LacksNumbers : Edit → Tree → Type 0
LacksNumbers e t = IsUnfiled (tree_at e.path t) ⊎ (HasNoFirst (site_by e t) × IsCrowded (site_by e t))

-- `Overflow` if the sums don't fit after the edit, else `Unnumberable` if numbers are lacking, else `Memory`, and that
-- only if the number of children grows
abbrev pub IsRefusedBy : ReplaceError → Edit → Tree → Type 0
IsRefusedBy Overflow e t = Fits e t × ¬ (TreeFits (edited_by e t))
IsRefusedBy Unnumberable e t = Fits e t × TreeFits (edited_by e t) × LacksNumbers e t
IsRefusedBy Memory e t =
    Fits e t
    × TreeFits (edited_by e t)
    × ¬ (IsUnfiled (tree_at e.path t))
    × ¬ (HasNoFirst (site_by e t))
    × (e.to - e.from < length e.others)

-- the same, with `Memory` whether or not the number of children grows, since moves take memory
abbrev pub IsRefusedFollowing : ReplaceError → Edit → Tree → Type 0
IsRefusedFollowing Overflow e t = IsRefusedBy Overflow e t
IsRefusedFollowing Unnumberable e t = IsRefusedBy Unnumberable e t
IsRefusedFollowing Memory e t =
    Fits e t × TreeFits (edited_by e t) × ¬ (IsUnfiled (tree_at e.path t)) × ¬ (HasNoFirst (site_by e t))
