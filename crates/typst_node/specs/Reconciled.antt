-- What a reconciliation makes of a tree.
use Rattle.std.specs.Prelude.{ℕ, ◌≡◌, ◌+◌, List, length, set}
use Rattle.std.specs.declared.ops.Range.{Range}
use Rattle.typst_node.specs.Tree.{Tree}
use Rattle.typst_node.specs.Labels.{bound}
use Rattle.typst_node.specs.Plain.{plain}
use Rattle.typst_node.specs.Numbered.{IsNumberedFor}
use Rattle.typst_node.specs.Paths.{IsPath, tree_at, trees_at, with_children}
use Rattle.typst_node.specs.PlainEdit.{TreeFits}
use Rattle.typst_node.specs.Edit.{Edit, edited_by, site_by}
use Rattle.typst_node.specs.Accepted.{IsAccepted}
use Rattle.typst_node.specs.Outside.{KeepsBeside}
use Rattle.typst_node.specs.Renumbering.{no_window}
use Rattle.typst_node.specs.Tells.{TellsAs}
use Rattle.typst_node.specs.Refusals.{IsRefusedBy}
use Rattle.typst_node.specs.Put.{with_span}
use Rattle.typst_node.specs.Moves.{NumberMoves, no_moves}
use Rattle.typst_node.specs.Following.{IsFollowed, AllGoOnOrGo, SpansFollow, StayInPlace}
use Rattle.typst_node.specs.Narrower.{IsOnlyChange, EndsOnAs, EndsWithoutLeaf, IsLowest, IsNarrowest}
use Rattle.typst_node.specs.declared.node.reconcile.Touched.{Touched}
use Rattle.typst_node.specs.declared.node.reconcile.Touched.TheVariants.{Leaf, Window}
use Rattle.typst_node.specs.declared.node.replace.Renumbered.{Renumbered}
use Rattle.typst_node.specs.declared.node.replace.ReplaceError.{ReplaceError}
use Rattle.typst_node.specs.declared.node.replace.ReplaceError.TheVariants.{Unnumberable, Overflow, Memory}

-- the children that a reconciliation touched: the leaf that goes on, or those in the window
abbrev pub touched_children : Touched → Range ℕ
touched_children (Leaf index) = record { start = index; end = index + 1 }
touched_children (Window r) = r.window

-- the answer on a leaf or an error, which stays as it is
abbrev pub none_touched : Touched
none_touched = Window no_window

-- Each path of the new tree is one of the old tree, and its node has the span and the bound that it had there.
abbrev pub KeepsNumbers : Tree → Tree → Type 0
KeepsNumbers old new =
    (q : List ℕ) → IsPath q new
    → IsPath q old × ((tree_at q new).label.span ≡ (tree_at q old).label.span) × (bound (tree_at q new).label ≡ bound (tree_at q old).label)

-- if a leaf or an error goes on, all nodes keep their places and their numbers
abbrev pub LeafKeepsNumbers : Touched → NumberMoves → Tree → Tree → Type 0
LeafKeepsNumbers (Leaf index) m old new = KeepsNumbers old new × StayInPlace m old new
LeafKeepsNumbers (Window r) m old new = Unit {0}

-- A leaf or an error went on, which is the child with this index of the edited node. The new one is in its place with
-- its span. Nothing else changed.
pub record IsLeafKept (f : Edit) (old : Tree) (index : ℕ) (new : Tree) : Type 0 where
  pub c : Tree
  pub u : Tree
  pub only : IsOnlyChange (site_by f old) (trees_at f.path old) c u
  pub goes_on : EndsOnAs c u
  pub put : new ≡ with_children f.path (set (trees_at f.path old) (length (site_by f old).before) (with_span c.label.span u)) old
  pub answer : index ≡ length (site_by f old).before

-- A leaf or an error went on at the lowest place, at this path, and nothing moves.
pub record IsLeafReconciled (e : Edit) (old : Tree) (path : List ℕ) (index : ℕ) (m : NumberMoves) (new : Tree) : Type 0 where
  pub lowest : Edit
  pub is_lowest : IsLowest e old lowest
  pub path_is : path ≡ lowest.path
  pub kept : IsLeafKept lowest old index new
  pub still : m ≡ no_moves

-- No leaf and no error goes on at the lowest place. The edit was accepted at the narrowest place, at this path, and the
-- moves are followed.
pub record IsEditReconciled (e : Edit) (old : Tree) (path : List ℕ) (r : Renumbered) (m : NumberMoves) (new : Tree) : Type 0 where
  pub no_leaf : EndsWithoutLeaf e old
  pub narrowest : Edit
  pub is_narrowest : IsNarrowest e old narrowest
  pub path_is : path ≡ narrowest.path
  pub accepted : IsAccepted narrowest old r new
  pub followed : IsFollowed narrowest old new m

-- a leaf or an error went on, or an edit was accepted
abbrev pub IsMade : Edit → Tree → List ℕ → Touched → NumberMoves → Tree → Type 0
IsMade e old path (Leaf index) m new = IsLeafReconciled e old path index m new
IsMade e old path (Window r) m new = IsEditReconciled e old path r m new

-- The tree is the plainly edited tree, numbered for the same file. A leaf or an error went on at the lowest place, or the
-- edit was accepted at the narrowest one. All nodes outside the touched children there keep their labels. Each node of
-- the old tree goes on or is gone, as the moves say, by its number and by its span. If a leaf or an error went on, all
-- nodes keep their places and numbers.
pub record IsReconciled (e : Edit) (old : Tree) (path : List ℕ) (touched : Touched) (m : NumberMoves) (new : Tree) : Type 0 where
  pub made : IsMade e old path touched m new
  pub sums : TreeFits (edited_by e old)
  pub plain : plain new ≡ plain (edited_by e old)
  pub reads : TellsAs new (edited_by e old)
  pub numbered : IsNumberedFor old.label.span.file new
  pub outside : KeepsBeside path (touched_children touched) old new
  pub all : AllGoOnOrGo m old new
  pub spans : SpansFollow m old
  pub still : LeafKeepsNumbers touched m old new

-- a reconciliation is refused as the edit itself is, and for a lack of memory
abbrev pub IsUnreconciledBy : ReplaceError → Edit → Tree → Type 0
IsUnreconciledBy Overflow e t = IsRefusedBy Overflow e t
IsUnreconciledBy Unnumberable e t = IsRefusedBy Unnumberable e t
IsUnreconciledBy Memory e t = Unit {0}
