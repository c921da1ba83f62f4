-- Whether the last node of a list is a statement.
use Rattle.std.specs.Prelude.{Bool, List, [], ◌∷◌, ◌&&◌}
use Rattle.typst_base.specs.KindClasses.{is_stmt_kind}
use Rattle.typst_node.specs.Tree.{Tree}
use Rattle.typst_node.specs.Views.{node_kind}

-- spaces after statements are left out, and the last node is a statement; for an empty list, `behind_stmt` says whether
-- one is directly before it
abbrev pub ends_in_stmt : Bool → Bool → List Tree → Bool
ends_in_stmt drops behind_stmt [] = behind_stmt
ends_in_stmt drops behind_stmt (t ∷ ts) = ends_in_stmt drops (drops && is_stmt_kind (node_kind t)) ts
