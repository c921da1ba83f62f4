-- Narrower edits: the same change of the plain tree, made further down.
use Rattle.std.specs.Prelude.{ℕ, zero, suc, ◌≡◌, ◌+◌, ◌<◌, List, [], ◌∷◌, ◌++◌, length}
use Rattle.typst_node.specs.Tree.{Tree, trees, IsInner, kind_of}
use Rattle.typst_node.specs.Labels.{number, bound}
use Rattle.typst_node.specs.Count.{count}
use Rattle.typst_node.specs.Paths.{trees_at}
use Rattle.typst_node.specs.Window.{Site}
use Rattle.typst_node.specs.Edit.{Edit, site_by}

-- between the children that stay, only the child c changes, and only the node u comes in its place
pub record IsOnlyChange (s : Site) (ts : List Tree) (c u : Tree) : Type 0 where
  pub old : ts ≡ s.before ++ c ∷ s.behind
  pub new : s.changed ≡ u ∷ []

-- an inner node goes on as another one, which has the same kind and the same warnings
pub record GoesOnAs (c u : Tree) : Type 0 where
  pub inner : IsInner c.label.content
  pub other_inner : IsInner u.label.content
  pub kind : kind_of c.label.content ≡ kind_of u.label.content
  pub warnings : c.label.warnings ≡ u.label.warnings

-- the numbers after that of the node c and below its bound suffice for all nodes of u
abbrev pub HasNumbersFor : Tree → Tree → Type 0
HasNumbersFor c u = number c.label + count u < bound c.label

-- an inner node goes on as another one, and its numbers suffice
abbrev pub GoesOnWithin : Tree → Tree → Type 0
GoesOnWithin c u = GoesOnAs c u × HasNumbersFor c u

-- A leaf or an error goes on as another one. Neither is an inner node, so neither has children. Both have the same kind.
pub record EndsOnAs (c u : Tree) : Type 0 where
  pub leaf : ¬ (IsInner c.label.content)
  pub other_leaf : ¬ (IsInner u.label.content)
  pub childless : trees c.children ≡ []
  pub other_childless : trees u.children ≡ []
  pub kind : kind_of c.label.content ≡ kind_of u.label.content

-- no leaf and no error goes on
abbrev pub HasNoLeaf : Edit → Tree → Type 0
HasNoLeaf e t = (c u : Tree) → IsOnlyChange (site_by e t) (trees_at e.path t) c u → ¬ (EndsOnAs c u)

-- the edit at a child of the edited node: the children of u in place of all children of c
abbrev pub edit_inside : Edit → ℕ → Tree → Tree → Edit
edit_inside e i c u = record {
  path = e.path ++ i ∷ [];
  from = 0;
  to = length (trees c.children);
  others = trees u.children;
}

-- One step down: the only child that changes goes on, in this way, as the node in its place, and its children are edited
-- instead.
pub record IsStep (Goes : Tree → Tree → Type 0) (e : Edit) (t : Tree) (f : Edit) : Type 0 where
  pub c : Tree
  pub u : Tree
  pub only : IsOnlyChange (site_by e t) (trees_at e.path t) c u
  pub goes_on : Goes c u
  pub is : f ≡ edit_inside e (length (site_by e t).before) c u

-- so many steps lead from the edit e down to the edit f
abbrev pub LeadsTo : (Tree → Tree → Type 0) → ℕ → Edit → Tree → Edit → Type 0
LeadsTo Goes zero e t f = f ≡ e
LeadsTo Goes (suc n) e t f = (g : Edit) × LeadsTo Goes n e t g × IsStep Goes g t f

-- no step leads on
abbrev pub IsLast : (Tree → Tree → Type 0) → Edit → Tree → Type 0
IsLast Goes f t = (g : Edit) → ¬ (IsStep Goes f t g)

-- the edit f is the last one to which steps lead from the edit e
pub record IsFurthest (Goes : Tree → Tree → Type 0) (e : Edit) (t : Tree) (f : Edit) : Type 0 where
  pub steps : ℕ
  pub leads : LeadsTo Goes steps e t f
  pub last : IsLast Goes f t

-- the edit f is the lowest one that does what e does, whether or not the numbers of the nodes above it suffice
abbrev pub IsLowest : Edit → Tree → Edit → Type 0
IsLowest e t f = IsFurthest GoesOnAs e t f

-- the edit f is the narrowest one that does what e does, as far as the numbers of the nodes above it suffice
abbrev pub IsNarrowest : Edit → Tree → Edit → Type 0
IsNarrowest e t f = IsFurthest GoesOnWithin e t f

-- no leaf and no error goes on where the edit is lowest
pub record EndsWithoutLeaf (e : Edit) (t : Tree) : Type 0 where
  pub lowest : Edit
  pub is_lowest : IsLowest e t lowest
  pub none : HasNoLeaf lowest t
