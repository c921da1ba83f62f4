-- The classes of kinds that hold expressions and more.
use Rattle.std.specs.Prelude.{Bool, ◌||◌}
use Rattle.typst_atoms.specs.ExprKinds.{is_expr_kind}
use Rattle.typst_atoms.specs.Kinds.{is_kind}
use Rattle.typst_base.specs.declared.kind.SyntaxKind.{SyntaxKind}
use Rattle.typst_base.specs.declared.kind.SyntaxKind.TheVariants as kinds

-- the class of `Arg`
abbrev pub is_arg_kind : SyntaxKind → Bool
is_arg_kind k = is_kind kinds.Named k || (is_kind kinds.Spread k || is_expr_kind k)

-- the class of `Pattern`
abbrev pub is_pattern_kind : SyntaxKind → Bool
is_pattern_kind k =
    is_kind kinds.Underscore k || (is_kind kinds.Parenthesized k || (is_kind kinds.Destructuring k || is_expr_kind k))

-- the class of `DestructuringItem`
abbrev pub is_destructuring_item_kind : SyntaxKind → Bool
is_destructuring_item_kind k = is_kind kinds.Named k || (is_kind kinds.Spread k || is_pattern_kind k)
