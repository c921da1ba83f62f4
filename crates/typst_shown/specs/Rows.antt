-- The rows of a tree.
use Rattle.std.specs.Prelude.{◌+◌, List, [], length, map, unwrap_or, Bool, true, false}
use Rattle.std.specs.Option.{is_none}
use Rattle.typst_linked.specs.Place.{Place, subtree, last_step}
use Rattle.typst_linked.specs.Preorder.{places_below}
use Rattle.typst_linked.specs.Siblings.{sibling, behind_it}
use Rattle.typst_node.specs.Tree.{Tree, Content, AsLeaf, AsError, AsInner, kind_of}
use Rattle.typst_node.specs.Text.{offset, text}
use Rattle.typst_node.specs.Labels.{number, bound}
use Rattle.typst_shown.specs.declared.row.Row.{Row}

-- whether a node has a list of children
abbrev pub has_children : Content → Bool
has_children (AsLeaf kind text) = false
has_children (AsError text message hints) = false
has_children (AsInner kind bound) = true

-- the row of a node at a place
abbrev pub row_of : Place → Tree → Row
row_of place t = record {
  depth = length place.path;
  index = last_step place.path;
  is_last = is_none (sibling behind_it place);
  kind = kind_of t.label.content;
  is_inner = has_children t.label.content;
  start = offset place.path place.root;
  end = offset place.path place.root + length (text t);
  number = number t.label;
  bound = bound t.label;
}

-- the row of the node at a place, where there is one
abbrev pub row_at : Place → Row
row_at place = row_of place (unwrap_or (subtree place) place.root)

-- the rows of a tree's nodes, in preorder
abbrev pub rows_of : Tree → List Row
rows_of t = map row_at (places_below (record { root = t; path = [] }))
