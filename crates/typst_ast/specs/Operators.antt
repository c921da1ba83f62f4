-- The operator among the children of an operation.
use Rattle.std.specs.Prelude.{Bool, cond, unwrap_or, List, [], ◌∷◌, ◌&&◌, Option, Some}
use Rattle.std.specs.List.{before_first, find, list_any}
use Rattle.std.specs.Option.{is_some, option_and_then}
use Rattle.typst_atoms.specs.BinaryOperators.{binary_operator_of}
use Rattle.typst_atoms.specs.Kinds.{is_kind}
use Rattle.typst_atoms.specs.UnaryOperators.{unary_operator_of}
use Rattle.typst_atoms.specs.declared.operators.BinOp.{BinOp}
use Rattle.typst_atoms.specs.declared.operators.BinOp.TheVariants.{Add, NotIn}
use Rattle.typst_atoms.specs.declared.operators.UnOp.{UnOp}
use Rattle.typst_atoms.specs.declared.operators.UnOp.TheVariants.{Pos}
use Rattle.typst_base.specs.declared.kind.SyntaxKind.{SyntaxKind}
use Rattle.typst_base.specs.declared.kind.SyntaxKind.TheVariants as kinds
use Rattle.typst_node.specs.Tree.{Tree}
use Rattle.typst_node.specs.Views.{node_kind}

-- the operator of the first node that is a unary operator, else `+`
abbrev pub unary_operator_in : List Tree → UnOp
unary_operator_in [] = Pos
unary_operator_in (t ∷ ts) = unwrap_or (unary_operator_of (node_kind t)) (unary_operator_in ts)

-- the operator of a token; if a `not` comes before it, `in` is `not in`
abbrev pub binary_operator_at : Bool → SyntaxKind → Option BinOp
binary_operator_at negated k = cond (negated && is_kind kinds.In k) (Some NotIn) (binary_operator_of k)

-- whether a node is a binary operator
abbrev pub is_binary_operator : Tree → Bool
is_binary_operator t = is_some (binary_operator_of (node_kind t))

-- whether a node is a `not`
abbrev pub is_not : Tree → Bool
is_not t = is_kind kinds.Not (node_kind t)

-- whether a `not` comes before the first binary operator
abbrev pub is_negated : List Tree → Bool
is_negated ts = list_any is_not (before_first is_binary_operator ts)

-- the operator of the first node that is a binary operator, else `+`; an `in` after a `not` is `not in`
abbrev pub binary_operator_in : List Tree → BinOp
binary_operator_in ts =
    unwrap_or (option_and_then (λ t. binary_operator_at (is_negated ts) (node_kind t)) (find is_binary_operator ts)) Add
