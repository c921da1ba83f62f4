-- How an accepted edit changes a tree.
use Rattle.std.specs.Prelude.{◌≡◌}
use Rattle.typst_node.specs.Tree.{Tree}
use Rattle.typst_node.specs.Plain.{plain}
use Rattle.typst_node.specs.Numbered.{IsNumberedFor}
use Rattle.typst_node.specs.Paths.{StaysBeside, tree_at, trees_at}
use Rattle.typst_node.specs.PlainEdit.{TreeFits}
use Rattle.typst_node.specs.Edit.{Edit, Fits, IsUnfiled, edited_by, site_by}
use Rattle.typst_node.specs.FirstWindow.{IsFoundSoon}
use Rattle.typst_node.specs.Renumbering.{IsRenumbering}
use Rattle.typst_node.specs.Outside.{KeepsOutside}
use Rattle.typst_node.specs.Tells.{TellsAs}
use Rattle.typst_node.specs.declared.node.replace.Renumbered.{Renumbered}

-- The edit fits, and so do the sums after it. The tree is the plainly edited tree, numbered for the file of the old
-- one. The first window with room was numbered anew, and few windows were tried. All nodes outside it keep their
-- labels. Only the children of the edited node change.
pub record IsAccepted (e : Edit) (old : Tree) (r : Renumbered) (new : Tree) : Type 0 where
  pub fits : Fits e old
  pub sums : TreeFits (edited_by e old)
  pub filed : ¬ (IsUnfiled (tree_at e.path old))
  pub plain : plain new ≡ plain (edited_by e old)
  pub reads : TellsAs new (edited_by e old)
  pub numbered : IsNumberedFor old.label.span.file new
  pub window : IsRenumbering (site_by e old) r (trees_at e.path new)
  pub tried : IsFoundSoon (site_by e old) r.tried
  pub outside : KeepsOutside e.path r old new
  pub beside : StaysBeside e.path old new
