-- The form of an equation and of its contents.
use Rattle.std.specs.Prelude.{Bool, false, ◌&&◌, List, [], ◌∷◌}
use Rattle.typst_ast.specs.Lists.{all_but_last}
use Rattle.typst_node.specs.Children.{second_of, last_of}
use Rattle.typst_atoms.specs.Kinds.{is_kind}
use Rattle.typst_atoms.specs.Missing.{is_of_kind}
use Rattle.typst_base.specs.declared.kind.SyntaxKind.TheVariants as kinds
use Rattle.typst_node.specs.Tree.{Tree}
use Rattle.typst_node.specs.Views.{node_kind}

-- a block equation: its second child and its last child but one are spaces
abbrev pub is_block_equation : List Tree → Bool
is_block_equation ts = is_of_kind kinds.Space (second_of ts) && is_of_kind kinds.Space (last_of (all_but_last ts))

-- at least two children, of which the first is an opening paren and the last a closing paren
abbrev pub is_deparenthesized : List Tree → Bool
is_deparenthesized [] = false
is_deparenthesized (t ∷ ts) = is_kind kinds.LeftParen (node_kind t) && is_of_kind kinds.RightParen (last_of ts)
