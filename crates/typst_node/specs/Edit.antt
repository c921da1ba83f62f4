-- An edit: other trees in place of some children of the node that a path leads to.
use Rattle.std.specs.Prelude.{ℕ, ◌≡◌, ◌⊎◌, List}
use Rattle.std.specs.declared.ops.Range.{Range}
use Rattle.typst_node.specs.Tree.{Tree}
use Rattle.typst_node.specs.Numbered.{IsNumbered}
use Rattle.typst_node.specs.Paths.{tree_at}
use Rattle.typst_node.specs.PlainEdit.{edited_at, FitsInner}
use Rattle.typst_node.specs.Window.{Site, site_of}

-- other trees in place of the children from one index up to another of the node that a path leads to
pub record Edit : Type 0 where
  pub path : List ℕ
  pub from : ℕ
  pub to : ℕ
  pub others : List Tree

-- the edit that a call asks for
abbrev pub edit_of : List ℕ → Range ℕ → List Tree → Edit
edit_of path range others = record { path = path; from = range.start; to = range.end; others = others }

-- the path leads to an inner node, and the range lies within its children
abbrev pub Fits : Edit → Tree → Type 0
Fits e t = FitsInner e.path e.from e.to t

-- the tree after the plain edit
abbrev pub edited_by : Edit → Tree → Tree
edited_by e t = edited_at e.path e.from e.to e.others t

-- the site of the edit among the children of the edited node
abbrev pub site_by : Edit → Tree → Site
site_by e t = site_of e.from e.to e.others (tree_at e.path t)

-- the node has no file id
abbrev pub IsUnfiled : Tree → Type 0
IsUnfiled t = t.label.span.file ≡ 0

-- the tree is numbered, or the node that a path leads to has no file id
abbrev pub IsNumberedOrUnfiled : List ℕ → Tree → Type 0
IsNumberedOrUnfiled path t = IsUnfiled (tree_at path t) ⊎ IsNumbered t
