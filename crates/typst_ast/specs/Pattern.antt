-- A `Pattern` in contracts.
use Rattle.std.specs.Prelude.{Option, IfSome, Bool, true, ◌≡◌, not}
use Rattle.typst_ast.specs.ExprTable.{expr_node, expr_kind, expr_kind_is_node_kind}
use Rattle.typst_ast.specs.View.{node_of}
use Rattle.typst_ast.specs.declared.pattern.Pattern.{Pattern}
use Rattle.typst_ast.specs.declared.pattern.Pattern.TheVariants.{Normal, Placeholder, Parenthesized, Destructuring}
use Rattle.typst_atoms.specs.Kinds.{is_kind}
use Rattle.typst_atoms.specs.OfKind.{kind_from_test}
use Rattle.typst_atoms.specs.View.{atom_node}
use Rattle.typst_base.specs.declared.kind.SyntaxKind.{SyntaxKind}
use Rattle.typst_base.specs.declared.kind.SyntaxKind.TheVariants as kinds
use Rattle.typst_node.specs.Tree.{Tree}
use Rattle.typst_node.specs.Views.{node_kind, IsViewOf}

-- the node of the pattern; a placeholder has none
abbrev pub pattern_node : Pattern → Option Tree
pattern_node (Normal v) = expr_node v
pattern_node (Placeholder v) = atom_node v
pattern_node (Parenthesized v) = node_of v
pattern_node (Destructuring v) = node_of v

-- the kind of the pattern, with or without a node
abbrev pub pattern_kind : Pattern → SyntaxKind
pattern_kind (Normal v) = expr_kind v
pattern_kind (Placeholder v) = kinds.Underscore
pattern_kind (Parenthesized v) = kinds.Parenthesized
pattern_kind (Destructuring v) = kinds.Destructuring

-- If the pattern has a node, its kind is that of the node, as `AstNode` requires.
pub pattern_kind_is_node_kind : (v : Pattern) → IfSome (pattern_node v) (λ t. pattern_kind v ≡ node_kind t)
pattern_kind_is_node_kind (Normal v) = expr_kind_is_node_kind v
pattern_kind_is_node_kind (Placeholder v) = kind_from_test kinds.Underscore v.node v.of_kind
pattern_kind_is_node_kind (Parenthesized v) = kind_from_test kinds.Parenthesized v.node v.of_kind
pattern_kind_is_node_kind (Destructuring v) = kind_from_test kinds.Destructuring v.node v.of_kind

-- The pattern has its proper form: a parenthesized node is `Parenthesized`, and not `Normal`. So the node and the kind
-- determine the variant.
abbrev pub is_proper_pattern : Pattern → Bool
is_proper_pattern (Normal v) = not (is_kind kinds.Parenthesized (expr_kind v))
is_proper_pattern (Placeholder v) = true
is_proper_pattern (Parenthesized v) = true
is_proper_pattern (Destructuring v) = true

-- the `Pattern` is that of this node, or the placeholder if there is no node
abbrev pub IsPatternOf : Option Tree → Pattern → Type 0
IsPatternOf = IsViewOf pattern_node pattern_kind is_proper_pattern kinds.None
