-- Sets of kinds, as one flag for each kind.
use Rattle.std.specs.Prelude.{◌==◌, Bool, false, List, slice_index_or}
use Rattle.typst_base.specs.KindNumber.{number_of}
use Rattle.typst_base.specs.declared.kind.SyntaxKind.{SyntaxKind}

-- Whether a set holds a kind. The set's flags are in the order of the kinds' numbers.
abbrev pub holds : List Bool → SyntaxKind → Bool
holds flags kind = slice_index_or flags (number_of kind) false

-- whether two kinds are the same
abbrev pub is_kind : SyntaxKind → SyntaxKind → Bool
is_kind a b = number_of a == number_of b
