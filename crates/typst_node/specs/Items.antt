-- What an iterator over the views of nodes still has to give.
use Rattle.std.specs.Prelude.{List, map, Option, Bool}
use Rattle.typst_node.specs.Children.{all_in}
use Rattle.typst_node.specs.declared.items.Items.{Items}
use Rattle.typst_base.specs.declared.kind.SyntaxKind.{SyntaxKind}
use Rattle.typst_node.specs.Tree.{Tree}
use Rattle.typst_node.specs.Views.{Class, told_of}

-- the nodes that it hasn't passed yet
abbrev pub nodes_ahead : {T : _} → Items T → List Tree
nodes_ahead items = items.rest.now

-- the nodes whose views are still to come, in order
abbrev pub nodes_left : {T : _} → Class → Items T → List Tree
nodes_left c items = all_in c items.rest.now

-- what is said about each of these views
abbrev pub told_left : {T : _} → Class → Items T → List (Option Tree × SyntaxKind × Bool)
told_left c items = map told_of (nodes_left c items)
