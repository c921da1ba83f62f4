-- The names that views of patterns bind, in order.
use Rattle.std.specs.Prelude.{map, List, [], ◌∷◌, Option, Some}
use Rattle.typst_ast.specs.View.{node_of}
use Rattle.typst_ast.specs.declared.expr.Expr.{Expr}
use Rattle.typst_ast.specs.declared.expr.Expr.TheVariants.{Ident}
use Rattle.typst_ast.specs.declared.lets.LetBindingKind.{LetBindingKind}
use Rattle.typst_ast.specs.declared.lets.LetBindingKind.TheVariants.{Normal as NormalKind, Closure}
use Rattle.typst_ast.specs.declared.pattern.Pattern.{Pattern}
use Rattle.typst_ast.specs.declared.pattern.Pattern.TheVariants.{Normal, Placeholder, Parenthesized, Destructuring}
use Rattle.typst_atoms.specs.Bindings.{names_bound, names_of_items}
use Rattle.typst_node.specs.Children.{first_child}
use Rattle.typst_atoms.specs.Classes.{is_pattern_kind}
use Rattle.typst_atoms.specs.View.{atom_node}
use Rattle.typst_node.specs.Tree.{Tree}

-- the nodes of the names that an expression binds as a pattern: an identifier binds itself, even as a placeholder
abbrev pub expr_names : Expr → List (Option Tree)
expr_names (Ident v) = atom_node v ∷ []
expr_names _ = []

-- What a view binds, if `names` says what a node binds as a pattern.
module _ (names : Option Tree → List Tree) where
  -- the nodes of the names that the parts of a destructuring bind, by `names`
  abbrev pub destructuring_names_by : Option Tree → List (Option Tree)
  destructuring_names_by parts = map Some (names_of_items names parts)

  -- the nodes of the names that a pattern binds, by `names`
  abbrev pub pattern_names_by : Pattern → List (Option Tree)
  pattern_names_by (Normal v) = expr_names v
  pattern_names_by (Placeholder v) = []
  pattern_names_by (Parenthesized v) = map Some (names (first_child is_pattern_kind (node_of v)))
  pattern_names_by (Destructuring v) = destructuring_names_by (node_of v)

  -- a let binding binds what its pattern binds, or the name of its closure
  abbrev pub let_names_by : LetBindingKind → List (Option Tree)
  let_names_by (NormalKind pattern) = pattern_names_by pattern
  let_names_by (Closure name) = atom_node name ∷ []

-- the same, with the names that nodes bind
abbrev pub destructuring_names : Option Tree → List (Option Tree)
destructuring_names = destructuring_names_by names_bound

-- the nodes of the names that a pattern binds
abbrev pub pattern_names : Pattern → List (Option Tree)
pattern_names = pattern_names_by names_bound

-- the nodes of the names that a let binding binds
abbrev pub let_names : LetBindingKind → List (Option Tree)
let_names = let_names_by names_bound
