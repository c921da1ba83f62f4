-- The classes of the items of arrays, dictionaries and parameters.
use Rattle.std.specs.Prelude.{Bool, ◌||◌}
use Rattle.typst_atoms.specs.Classes.{is_pattern_kind}
use Rattle.typst_atoms.specs.ExprKinds.{is_expr_kind}
use Rattle.typst_atoms.specs.Kinds.{is_kind}
use Rattle.typst_base.specs.declared.kind.SyntaxKind.{SyntaxKind}
use Rattle.typst_base.specs.declared.kind.SyntaxKind.TheVariants as kinds

-- the class of `ArrayItem`
abbrev pub is_array_item_kind : SyntaxKind → Bool
is_array_item_kind k = is_kind kinds.Spread k || is_expr_kind k

-- the class of `DictItem`
abbrev pub is_dict_item_kind : SyntaxKind → Bool
is_dict_item_kind k = is_kind kinds.Named k || (is_kind kinds.Keyed k || is_kind kinds.Spread k)

-- the class of `Param`
abbrev pub is_param_kind : SyntaxKind → Bool
is_param_kind k = is_kind kinds.Named k || (is_kind kinds.Spread k || is_pattern_kind k)
