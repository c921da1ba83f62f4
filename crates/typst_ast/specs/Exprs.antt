-- The expressions of markup and of math: children that are expressions or spaces.
use Rattle.std.specs.Prelude.{Bool, map, Option, List, ◌||◌}
use Rattle.typst_ast.specs.declared.exprs.Exprs.{Exprs}
use Rattle.typst_node.specs.Children.{all_in}
use Rattle.typst_atoms.specs.ExprKinds.{is_expr_kind}
use Rattle.typst_atoms.specs.KeptNodes.{kept_left, markup_nodes, nodes_ahead as kept_nodes_ahead}
use Rattle.typst_atoms.specs.Kinds.{is_kind}
use Rattle.typst_base.specs.declared.kind.SyntaxKind.{SyntaxKind}
use Rattle.typst_base.specs.declared.kind.SyntaxKind.TheVariants as kinds
use Rattle.typst_node.specs.Tree.{Tree}
use Rattle.typst_node.specs.Views.{told_of}

-- an expression or a space
abbrev pub is_expr_or_space_kind : SyntaxKind → Bool
is_expr_or_space_kind k = is_kind kinds.Space k || is_expr_kind k

-- the expressions of markup: children that are expressions or spaces, but no space directly after a statement
abbrev pub markup_exprs : List Tree → List Tree
markup_exprs ts = all_in is_expr_or_space_kind (markup_nodes ts)

-- the nodes that it hasn't passed yet
abbrev pub nodes_ahead : Exprs → List Tree
nodes_ahead e = kept_nodes_ahead e.nodes

-- the nodes whose views are still to come
abbrev pub exprs_left : Exprs → List Tree
exprs_left e = all_in is_expr_or_space_kind (kept_left e.nodes)

-- what is said about each of these views
abbrev pub told_exprs_left : Exprs → List (Option Tree × SyntaxKind × Bool)
told_exprs_left e = map told_of (exprs_left e)
