-- Tests of kinds.
use Rattle.std.specs.Prelude.{Bool, ◌||◌}
use Rattle.typst_base.specs.contracts.kind.SyntaxKind.{the_type}
use Rattle.typst_base.specs.declared.kind.SyntaxKind.{SyntaxKind}
use Rattle.typst_base.specs.declared.kind.SyntaxKind.TheVariants as kinds
use denote.Enum.Bare.{sameb}

-- the class of one kind: whether the second kind is the first
abbrev pub is_kind : SyntaxKind → SyntaxKind → Bool
is_kind j k = sameb the_type k j

-- the class of `MathAccess`
abbrev pub is_math_access_kind : SyntaxKind → Bool
is_math_access_kind k = is_kind kinds.MathIdent k || is_kind kinds.MathFieldAccess k

-- the class of `ImportItem`
abbrev pub is_import_item_kind : SyntaxKind → Bool
is_import_item_kind k = is_kind kinds.ImportItemPath k || is_kind kinds.RenamedImportItem k
