-- The kinds of a set as a list.
use Rattle.std.specs.Prelude.{◌≡◌, Bool, List, Some, map, refl, slice_get}
use Rattle.std.specs.List.{filter, range_with_len}
use Rattle.typst_base.specs.AllKinds.{all_kinds}
use Rattle.typst_base.specs.KindNumber.{number_of}
use Rattle.typst_base.specs.KindSet.{holds}
use Rattle.typst_base.specs.declared.kind.SyntaxKind.{SyntaxKind}
use Rattle.typst_base.specs.declared.kind.SyntaxKind.TheVariants.{End}

-- the numbers of all kinds are those from 0 to 136, in order
pub numbers-all_kinds : map number_of all_kinds ≡ range_with_len 0 137
unfolding all_kinds
numbers-all_kinds = refl

-- no kind is missing: each is at the place of its number
pub all_kinds-at : (k : SyntaxKind) → slice_get all_kinds (number_of k) ≡ Some k
unfolding all_kinds
all_kinds-at End = refl
all_kinds-at _ = refl

-- the kinds that the flags hold, in the order of their numbers, each once
abbrev pub kinds_in : List Bool → List SyntaxKind
kinds_in flags = filter (holds flags) all_kinds
