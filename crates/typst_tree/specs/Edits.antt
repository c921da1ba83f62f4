-- What an edit of a numbered tree does, and why it isn't done.
use Rattle.std.specs.Prelude.{ℕ, ◌≡◌, ◌+◌, ◌≤◌, List, length, take, slice_get, Some, Result, Ok, Err}
use Rattle.typst_node.specs.Tree.{Tree, IsInner}
use Rattle.typst_node.specs.Paths.{IsPath, tree_at, trees_at}
use Rattle.typst_node.specs.Edit.{Edit, Fits, IsUnfiled}
use Rattle.typst_node.specs.Accepted.{IsAccepted}
use Rattle.typst_node.specs.Refusals.{IsRefusedBy}
use Rattle.typst_node.specs.Reconciled.{IsReconciled, IsUnreconciledBy}
use Rattle.typst_node.specs.declared.node.reconcile.Reconciled.{Reconciled as Done}
use Rattle.typst_node.specs.declared.node.replace.Renumbered.{Renumbered as Window}
use Rattle.typst_tree.specs.declared.edit.EditError.{EditError}
use Rattle.typst_tree.specs.declared.edit.EditError.TheVariants.{NoNode, Leaf, Range, Refused}

-- The first `steps` steps of a path lead to a node with `children` children. The next step of the path leads to the
-- child `index`, which the node lacks.
pub record LacksChild (steps : ℕ) (path : List ℕ) (t : Tree) (index children : ℕ) : Type 0 where
  pub leads : IsPath (take steps path) t
  pub next : slice_get path steps ≡ Some index
  pub count : children ≡ length (trees_at (take steps path) t)
  pub lacks : children ≤ index

-- Why an edit fits no inner node: a step of the path leads to no child, the path leads to a leaf, or the range isn't a
-- range of the children. The tree is `above` steps below the root of the whole tree.
abbrev pub IsMisfitBelow : ℕ → List ℕ → ℕ → ℕ → Tree → EditError → Type 0
IsMisfitBelow above path from to t (NoNode depth index children) = (steps : ℕ) × (depth ≡ above + steps) × LacksChild steps path t index children
IsMisfitBelow above path from to t Leaf = IsPath path t × ¬ (IsInner (tree_at path t).label.content)
IsMisfitBelow above path from to t (Range start end children) =
    IsPath path t
    × IsInner (tree_at path t).label.content
    × (start ≡ from)
    × (end ≡ to)
    × (children ≡ length (trees_at path t))
    × ¬ ((from ≤ to) × (to ≤ children))
IsMisfitBelow above path from to t (Refused e) = ⊥

-- why an edit of a whole tree fits no inner node
abbrev pub IsMisfit : List ℕ → ℕ → ℕ → Tree → EditError → Type 0
IsMisfit path from to t e = IsMisfitBelow 0 path from to t e

-- why an edit isn't done: it was refused, but not for lack of a file id, or it fits no inner node
abbrev pub IsUndone : Edit → Tree → EditError → Type 0
IsUndone e old (Refused why) = IsRefusedBy why e old × ¬ (IsUnfiled (tree_at e.path old))
IsUndone e old (NoNode depth index children) = IsMisfit e.path e.from e.to old (NoNode depth index children)
IsUndone e old Leaf = IsMisfit e.path e.from e.to old Leaf
IsUndone e old (Range start end children) = IsMisfit e.path e.from e.to old (Range start end children)

-- an edit is done, or it isn't done and changes nothing
abbrev pub IsEdit : Edit → Tree → Result Window EditError → Tree → Type 0
IsEdit e old (Ok r) new = IsAccepted e old r new
IsEdit e old (Err why) new = IsUndone e old why × (new ≡ old)

-- why a reconciliation isn't done: it was refused, but not for lack of a file id, or it fits no inner node
abbrev pub IsUnreconciled : Edit → Tree → EditError → Type 0
IsUnreconciled e old (Refused why) = IsUnreconciledBy why e old × ¬ (IsUnfiled (tree_at e.path old))
IsUnreconciled e old (NoNode depth index children) = IsMisfit e.path e.from e.to old (NoNode depth index children)
IsUnreconciled e old Leaf = IsMisfit e.path e.from e.to old Leaf
IsUnreconciled e old (Range start end children) = IsMisfit e.path e.from e.to old (Range start end children)

-- the nodes that go on stayed, or nothing is done and nothing changes
abbrev pub IsReconciliation : Edit → Tree → Result Done EditError → Tree → Type 0
IsReconciliation e old (Ok done) new = Fits e old × IsReconciled e old done.path.items done.touched done.moves new
IsReconciliation e old (Err why) new = IsUnreconciled e old why × (new ≡ old)
