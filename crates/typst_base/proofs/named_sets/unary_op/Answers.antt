-- The bits of the word are the kinds of the list.
use Rattle.std.proofs.Common.{◌≡◌, ◌∙◌, refl, sym, lit<}
use Rattle.typst_base.specs.KindNumber.{number_of}
use Rattle.typst_base.specs.NamedSets.{unary_op_set}
use Rattle.typst_base.specs.declared.named_sets.TheConstants.{UNARY_OP}
use Rattle.typst_base.specs.declared.kind.SyntaxKind.{SyntaxKind}
use Rattle.typst_base.specs.declared.kind.SyntaxKind.TheVariants.{End}
use Rattle.typst_base.proofs.SetLemmas.{flag_at, holds-words}
use Rattle.typst_base.proofs.named_sets.unary_op.Goals as goal

unary_op-bits : (k : SyntaxKind) → flag_at UNARY_OP 0 (number_of k) ≡ unary_op_set k
unfolding flag_at
unary_op-bits End = refl
unary_op-bits _ = refl

pub returns : goal.returns
returns c = λ k. holds-words _ _ 0 (sym c.from_low_word.ensures) (lit< tt) k ∙ unary_op-bits k
