-- A `Param` in contracts.
use Rattle.std.specs.Prelude.{Option, IfSome, Bool, true, ◌≡◌}
use Rattle.typst_ast.specs.Pattern.{pattern_node, pattern_kind, pattern_kind_is_node_kind, is_proper_pattern}
use Rattle.typst_ast.specs.View.{node_of}
use Rattle.typst_ast.specs.declared.param.Param.{Param}
use Rattle.typst_ast.specs.declared.param.Param.TheVariants.{Pos, Named, Spread}
use Rattle.typst_atoms.specs.OfKind.{kind_from_test}
use Rattle.typst_base.specs.declared.kind.SyntaxKind.{SyntaxKind}
use Rattle.typst_base.specs.declared.kind.SyntaxKind.TheVariants as kinds
use Rattle.typst_node.specs.Tree.{Tree}
use Rattle.typst_node.specs.Views.{node_kind}

-- the node of the parameter; a placeholder has none
abbrev pub param_node : Param → Option Tree
param_node (Pos v) = pattern_node v
param_node (Named v) = node_of v
param_node (Spread v) = node_of v

-- the kind of the parameter, with or without a node
abbrev pub param_kind : Param → SyntaxKind
param_kind (Pos v) = pattern_kind v
param_kind (Named v) = kinds.Named
param_kind (Spread v) = kinds.Spread

-- If the parameter has a node, its kind is that of the node, as `AstNode` requires.
pub param_kind_is_node_kind : (v : Param) → IfSome (param_node v) (λ t. param_kind v ≡ node_kind t)
param_kind_is_node_kind (Pos v) = pattern_kind_is_node_kind v
param_kind_is_node_kind (Named v) = kind_from_test kinds.Named v.node v.of_kind
param_kind_is_node_kind (Spread v) = kind_from_test kinds.Spread v.node v.of_kind

-- the parameter has the proper form of a pattern
abbrev pub is_proper_param : Param → Bool
is_proper_param (Pos v) = is_proper_pattern v
is_proper_param (Named v) = true
is_proper_param (Spread v) = true
