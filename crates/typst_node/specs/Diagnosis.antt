-- Which trees hold errors, and which hold warnings.
use Rattle.std.specs.Prelude.{Bool, true, false, List, [], ◌∷◌}
use Rattle.std.specs.List.{list_any}
use Rattle.typst_node.specs.Tree.{Content, AsLeaf, AsError, AsInner, Label, Tree, WarningText, forest}
use Rattle.typst_node.specs.Preorder.{nodes, preorder}

-- whether a content is that of an error
abbrev pub is_error_content : Content → Bool
is_error_content (AsLeaf kind text) = false
is_error_content (AsError text message hints) = true
is_error_content (AsInner kind bound) = false

-- whether a node is an error
abbrev pub is_error : Label → Bool
is_error l = is_error_content l.content

-- whether there is a warning
abbrev pub has_some : List WarningText → Bool
has_some [] = false
has_some (w ∷ ws) = true

-- whether a node has a warning
abbrev pub is_warned : Label → Bool
is_warned l = has_some l.warnings

-- whether a node of the tree is an error
abbrev pub has_error : Tree → Bool
has_error t = list_any is_error (nodes t)

-- whether a node of the tree has a warning
abbrev pub has_warning : Tree → Bool
has_warning t = list_any is_warned (nodes t)

-- whether a node of one of these trees is an error
abbrev pub any_has_error : List Tree → Bool
any_has_error ts = list_any is_error (preorder (forest ts))

-- whether a node of one of these trees has a warning
abbrev pub any_has_warning : List Tree → Bool
any_has_warning ts = list_any is_warned (preorder (forest ts))
