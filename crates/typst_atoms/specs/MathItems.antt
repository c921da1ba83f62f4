-- The items and the arguments of a function call in math: children of its arguments.
use Rattle.std.specs.Prelude.{Bool, false, not, cond, map, filter, take, List, [], ◌∷◌, ◌++◌, ◌||◌}
use Rattle.std.specs.List.{enumerate_from}
use Rattle.typst_node.specs.Children.{all_in, last_of}
use Rattle.typst_atoms.specs.Classes.{is_arg_kind}
use Rattle.typst_atoms.specs.Kinds.{is_kind}
use Rattle.typst_atoms.specs.Missing.{is_of_kind}
use Rattle.typst_atoms.specs.declared.math_items.MathItems.{MathItems}
use Rattle.typst_base.specs.declared.kind.SyntaxKind.{SyntaxKind}
use Rattle.typst_base.specs.declared.kind.SyntaxKind.TheVariants as kinds
use Rattle.typst_node.specs.Tree.{Tree}
use Rattle.typst_node.specs.Views.{node_kind}

-- a space, a comma or a paren
abbrev pub is_separator_kind : SyntaxKind → Bool
is_separator_kind k =
    is_kind kinds.Space k || (is_kind kinds.Comma k || (is_kind kinds.LeftParen k || is_kind kinds.RightParen k))

-- Whether a child is an item: an argument, a space, a comma, a paren, or a semicolon that doesn't end an expression
-- after a hash.
abbrev pub is_item : Bool → SyntaxKind → Bool
is_item behind_hash k = cond (is_kind kinds.Semicolon k) (not behind_hash) (is_separator_kind k || is_arg_kind k)

-- whether the last of these nodes that is not an argument is a hash
abbrev pub is_hash_last : List Tree → Bool
is_hash_last ts = is_of_kind kinds.Hash (last_of (all_in (λ k. not (is_arg_kind k)) ts))

-- each node with the nodes before it
abbrev pub with_all_before : List Tree → List (List Tree × Tree)
with_all_before ts = map (λ p. (take p.0 ts, p.1)) (enumerate_from 0 ts)

-- whether a node is an item after these nodes; a semicolon is not, if the last of them that is not an argument is a
-- hash
abbrev pub is_content_item : List Tree × Tree → Bool
is_content_item p = is_item (is_hash_last p.0) (node_kind p.1)

-- the items of the children of a call's arguments
abbrev pub content_items : List Tree → List Tree
content_items ts = map (λ p. p.1) (filter is_content_item (with_all_before ts))

-- the node alone, if it is an item
abbrev pub item_alone : Bool → Tree → List Tree
item_alone behind_hash t = cond (is_item behind_hash (node_kind t)) (t ∷ []) []

-- whether the last of the nodes up to `t` that is not an argument is a hash; `behind_hash` says this for the nodes
-- before `t`
abbrev pub is_behind_hash : Bool → Tree → Bool
is_behind_hash behind_hash t = cond (is_arg_kind (node_kind t)) behind_hash (is_kind kinds.Hash (node_kind t))

-- The items of a list that an iterator in this state still has to give, in order. `behind_hash` says whether the
-- nearest node before the list that is not an argument is a hash.
abbrev pub items_in : Bool → List Tree → List Tree
items_in behind_hash [] = []
items_in behind_hash (t ∷ ts) = item_alone behind_hash t ++ items_in (is_behind_hash behind_hash t) ts

-- whether one of these items before the next argument is a semicolon
abbrev pub ends_in_semicolon : List Tree → Bool
ends_in_semicolon [] = false
ends_in_semicolon (t ∷ ts) =
    cond (is_arg_kind (node_kind t)) false (is_kind kinds.Semicolon (node_kind t) || ends_in_semicolon ts)

-- the arguments among these items, each with whether a semicolon comes after it before the next argument
abbrev pub args_in : List Tree → List (Tree × Bool)
args_in [] = []
args_in (t ∷ ts) = cond (is_arg_kind (node_kind t)) ((t, ends_in_semicolon ts) ∷ args_in ts) (args_in ts)

-- the nodes that it hasn't passed yet
abbrev pub nodes_ahead : MathItems → List Tree
nodes_ahead items = items.rest.now

-- the items that are still to come
abbrev pub items_left : MathItems → List Tree
items_left items = items_in items.behind_hash items.rest.now
