-- Another tree in place of the one at a path.
use Rattle.std.specs.Prelude.{ℕ, List, [], ◌∷◌, set, get_or}
use Rattle.typst_base.specs.Span.{SpanParts}
use Rattle.typst_node.specs.Tree.{Tree, forest, trees}
use Rattle.typst_node.specs.Paths.{no_tree}

-- the tree with another tree at a path; everything else stays
abbrev pub with_tree : List ℕ → Tree → Tree → Tree
with_tree [] u t = u
with_tree (i ∷ path) u t = record {
  label = t.label;
  children = forest (set (trees t.children) i (with_tree path u (get_or (trees t.children) i no_tree)));
}

-- the node with another span
abbrev pub with_span : SpanParts → Tree → Tree
with_span span u = record {
  label = record { span = span; warnings = u.label.warnings; content = u.label.content };
  children = u.children;
}
