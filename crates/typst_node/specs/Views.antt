-- The subjects of typed views: kinds of nodes, classes of kinds, and nodes that may be missing.
use Rattle.std.specs.Prelude.{Bool, true, IsTrue, Option, Some, None, MatchOption, ◌≡◌, ◌≢◌}
use Rattle.typst_base.specs.Span.{SpanParts, detached}
use Rattle.typst_base.specs.declared.kind.SyntaxKind.{SyntaxKind}
use Rattle.typst_node.specs.Tree.{Tree, kind_of}

-- a class is a set of kinds
abbrev pub Class : Type 0
Class = SyntaxKind → Bool

-- the kind of a node
abbrev pub node_kind : Tree → SyntaxKind
node_kind t = kind_of t.label.content

-- the kind of a node, or the given kind if there is no node
abbrev pub kind_or : SyntaxKind → Option Tree → SyntaxKind
kind_or blank (Some t) = node_kind t
kind_or blank None = blank

-- the span of a node, or a detached span if there is no node
abbrev pub span_or_detached : Option Tree → SpanParts
span_or_detached (Some t) = t.label.span
span_or_detached None = detached

module _ {V : Type 0} (node_of : V → Option Tree) (view_kind : V → SyntaxKind) (proper : V → Bool) where
  -- the view is that of this node; if there is no node, it is its type's placeholder, of this kind
  pub record IsViewOf (blank : SyntaxKind) (tree : Option Tree) (view : V) : Type 0 where
    pub node : node_of view ≡ tree
    pub kind : view_kind view ≡ kind_or blank tree
    pub is_proper : IsTrue (proper view)

  -- there is a view exactly if there is a node, and then it is the view of that node
  abbrev pub IsOptionalViewOf : SyntaxKind → Option Tree → Option V → Type 0
  IsOptionalViewOf blank tree view = MatchOption view (tree ≡ None) (λ v. (tree ≢ None) × IsViewOf blank tree v)

-- What an iterator over views says about a view: its node, its kind, and whether it is the proper form.
abbrev pub told : {V : Type 0} → (V → Option Tree) → (V → SyntaxKind) → (V → Bool) → V → Option Tree × SyntaxKind × Bool
told node_of view_kind proper view = (node_of view, view_kind view, proper view)

-- What it says about the proper view of a node.
abbrev pub told_of : Tree → Option Tree × SyntaxKind × Bool
told_of t = (Some t, node_kind t, true)
