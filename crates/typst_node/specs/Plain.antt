-- The plain tree of a labelled tree: the same tree without spans and bounds.
use Rattle.typst_base.specs.Span.{detached}
use Rattle.typst_node.specs.Tree.{Content, AsLeaf, AsError, AsInner, Label, Forest, none, tree, Tree}

-- the content with bound 0
abbrev pub unbounded : Content → Content
unbounded (AsLeaf kind text) = AsLeaf kind text
unbounded (AsError text message hints) = AsError text message hints
unbounded (AsInner kind bound) = AsInner kind 0

-- the label with a detached span and with bound 0
abbrev pub plain_label : Label → Label
plain_label l = record { span = detached; warnings = l.warnings; content = unbounded l.content }

-- the same trees with all spans detached and all bounds 0
abbrev pub plain_forest : Forest → Forest
plain_forest none = none
plain_forest (tree l c r) = tree (plain_label l) (plain_forest c) (plain_forest r)

-- the tree with all spans detached and all bounds 0: two trees that differ only in these have the same plain tree
abbrev pub plain : Tree → Tree
plain t = record { label = plain_label t.label; children = plain_forest t.children }
