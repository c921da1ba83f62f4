-- The children in which markup looks for its expressions: all but spaces directly after a statement.
use Rattle.std.specs.Prelude.{Bool, false, not, cond, map, filter, Option, Some, None, List, [], ◌∷◌, ◌++◌, ◌&&◌}
use Rattle.std.specs.List.{zip}
use Rattle.typst_atoms.specs.Kinds.{is_kind}
use Rattle.typst_atoms.specs.declared.kept_nodes.KeptNodes.{KeptNodes}
use Rattle.typst_base.specs.KindClasses.{is_stmt_kind}
use Rattle.typst_base.specs.declared.kind.SyntaxKind.TheVariants as kinds
use Rattle.typst_node.specs.Tree.{Tree}
use Rattle.typst_node.specs.Views.{node_kind}

-- whether there is a node, and it is a statement
abbrev pub is_stmt : Option Tree → Bool
is_stmt (Some t) = is_stmt_kind (node_kind t)
is_stmt None = false

-- each node with the node directly before it, if there is one
abbrev pub with_before : List Tree → List (Option Tree × Tree)
with_before ts = zip (None ∷ map (λ t. Some t) ts) ts

-- a space directly after a statement
abbrev pub is_space_behind_stmt : Option Tree × Tree → Bool
is_space_behind_stmt p = is_stmt p.0 && is_kind kinds.Space (node_kind p.1)

-- the nodes without each space directly after a statement
abbrev pub markup_nodes : List Tree → List Tree
markup_nodes ts = map (λ p. p.1) (filter (λ p. not (is_space_behind_stmt p)) (with_before ts))

-- the node alone, unless it is a space directly after a statement
abbrev pub kept : Bool → Tree → List Tree
kept behind_stmt t = cond (behind_stmt && is_kind kinds.Space (node_kind t)) [] (t ∷ [])

-- The nodes of a list that an iterator in this state still has to give. If `drops` is true, a space directly after a
-- statement is left out. `behind_stmt` says whether a statement is directly before the list.
abbrev pub kept_in : Bool → Bool → List Tree → List Tree
kept_in drops behind_stmt [] = []
kept_in drops behind_stmt (t ∷ ts) = kept behind_stmt t ++ kept_in drops (drops && is_stmt_kind (node_kind t)) ts

-- the nodes that it hasn't passed yet
abbrev pub nodes_ahead : KeptNodes → List Tree
nodes_ahead nodes = nodes.rest.now

-- the nodes that are still to come
abbrev pub kept_left : KeptNodes → List Tree
kept_left nodes = kept_in nodes.drops nodes.behind_stmt nodes.rest.now
