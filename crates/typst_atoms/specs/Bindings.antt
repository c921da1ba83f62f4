-- The names that a pattern binds, in order.
use Rattle.std.specs.Prelude.{ℕ, zero, suc, cond, List, [], ◌∷◌, Option, Some, None}
use Rattle.std.specs.List.{flat_map}
use Rattle.std.specs.Option.{option_to_list}
use Rattle.typst_node.specs.Children.{all_children, all_in, first_child, last_child}
use Rattle.typst_atoms.specs.Classes.{is_destructuring_item_kind, is_pattern_kind}
use Rattle.typst_atoms.specs.Kinds.{is_kind}
use Rattle.typst_base.specs.declared.kind.SyntaxKind.TheVariants as kinds
use Rattle.typst_node.specs.Count.{count}
use Rattle.typst_node.specs.Tree.{Tree}
use Rattle.typst_node.specs.Views.{node_kind}

-- What an item of a destructuring binds, if `names` says what a pattern binds. A named pair binds the names of its
-- pattern, a spread binds the name of its sink, and a pattern binds its names.
abbrev pub names_of_item : (Option Tree → List Tree) → Tree → List Tree
names_of_item names t =
    cond (is_kind kinds.Named (node_kind t)) (names (last_child is_pattern_kind (Some t)))
    (cond (is_kind kinds.Spread (node_kind t)) (option_to_list (first_child (is_kind kinds.Ident) (Some t))) (names (Some t)))

-- the names that the items of a destructuring among these trees bind, in order
abbrev pub names_among : (Option Tree → List Tree) → List Tree → List Tree
names_among names ts = flat_map (names_of_item names) (all_in is_destructuring_item_kind ts)

-- the names that the items of a destructuring bind, in order
abbrev pub names_of_items : (Option Tree → List Tree) → Option Tree → List Tree
names_of_items names parts = flat_map (names_of_item names) (all_children is_destructuring_item_kind parts)

-- What a pattern binds, if `names` says what a pattern below it binds. An identifier binds itself, a group binds the
-- names of its pattern, a destructuring binds the names of its items, and any other pattern binds nothing.
abbrev pub names_of_pattern : (Option Tree → List Tree) → Option Tree → List Tree
names_of_pattern names None = []
names_of_pattern names (Some t) =
    cond (is_kind kinds.Ident (node_kind t)) (t ∷ [])
    (cond (is_kind kinds.Parenthesized (node_kind t)) (names (first_child is_pattern_kind (Some t)))
    (cond (is_kind kinds.Destructuring (node_kind t)) (names_of_items names (Some t)) []))

-- the same, down to a number of levels
abbrev pub names_within : ℕ → Option Tree → List Tree
names_within zero pattern = []
names_within (suc levels) pattern = names_of_pattern (names_within levels) pattern

-- the number of a tree's nodes; 0 if there is no tree
abbrev pub count_in : Option Tree → ℕ
count_in None = 0
count_in (Some t) = count t

-- the names that a pattern binds; a tree has no more levels than nodes
unfoldable pub names_bound : Option Tree → List Tree
names_bound pattern = names_within (count_in pattern) pattern
