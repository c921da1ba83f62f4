-- The bits of the word are the kinds of the list.
use Rattle.std.proofs.Common.{◌≡◌, ◌∙◌, refl, sym, lit<}
use Rattle.typst_base.specs.KindNumber.{number_of}
use Rattle.typst_base.specs.NamedSets.{binary_op_set}
use Rattle.typst_base.specs.declared.named_sets.TheConstants.{BINARY_OP}
use Rattle.typst_base.specs.declared.kind.SyntaxKind.{SyntaxKind}
use Rattle.typst_base.specs.declared.kind.SyntaxKind.TheVariants.{End}
use Rattle.typst_base.proofs.SetLemmas.{flag_at, holds-words}
use Rattle.typst_base.proofs.named_sets.binary_op.Goals as goal

binary_op-bits : (k : SyntaxKind) → flag_at BINARY_OP 0 (number_of k) ≡ binary_op_set k
unfolding flag_at
binary_op-bits End = refl
binary_op-bits _ = refl

pub returns : goal.returns
returns c = λ k. holds-words _ _ 0 (sym c.from_low_word.ensures) (lit< tt) k ∙ binary_op-bits k
