-- The items and the arguments of a function call in math that are still to come.
use Rattle.std.specs.Prelude.{Bool, map, Option, Some, List}
use Rattle.typst_ast.specs.declared.math_args.MathArgItems.{MathArgItems}
use Rattle.typst_ast.specs.declared.math_args.MathArgList.{MathArgList}
use Rattle.typst_atoms.specs.MathItems.{args_in, items_left as nodes_left, nodes_ahead as math_nodes_ahead}
use Rattle.typst_base.specs.declared.kind.SyntaxKind.{SyntaxKind}
use Rattle.typst_node.specs.Tree.{Tree}
use Rattle.typst_node.specs.Views.{node_kind, told_of}

-- the nodes that an iterator over items hasn't passed yet
abbrev pub nodes_ahead : MathArgItems → List Tree
nodes_ahead i = math_nodes_ahead i.nodes

-- the nodes that an iterator over arguments hasn't passed yet
abbrev pub nodes_ahead_of_args : MathArgList → List Tree
nodes_ahead_of_args l = math_nodes_ahead l.nodes

-- the nodes whose items are still to come
abbrev pub items_left : MathArgItems → List Tree
items_left i = nodes_left i.nodes

-- the arguments that are still to come, each with whether it ends in a semicolon
abbrev pub args_left : MathArgList → List (Tree × Bool)
args_left l = args_in (nodes_left l.nodes)

-- what is said about each of the items that are still to come
abbrev pub told_items_left : MathArgItems → List (Option Tree × SyntaxKind × Bool)
told_items_left i = map told_of (items_left i)

-- what is said about an argument: its node, its kind, and whether it ends in a semicolon
abbrev pub told_arg_of : Tree × Bool → Option Tree × SyntaxKind × Bool
told_arg_of p = (Some p.0, node_kind p.0, p.1)

-- what is said about each of the arguments that are still to come
abbrev pub told_args_left : MathArgList → List (Option Tree × SyntaxKind × Bool)
told_args_left l = map told_arg_of (args_left l)
