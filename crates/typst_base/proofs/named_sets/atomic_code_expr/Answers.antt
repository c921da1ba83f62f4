-- The bits of the word are the kinds of the list.
use Rattle.std.proofs.Common.{◌≡◌, ◌∙◌, refl, sym, lit<}
use Rattle.typst_base.specs.KindNumber.{number_of}
use Rattle.typst_base.specs.NamedSets.{atomic_code_expr_set}
use Rattle.typst_base.specs.declared.named_sets.TheConstants.{ATOMIC_CODE_EXPR}
use Rattle.typst_base.specs.declared.kind.SyntaxKind.{SyntaxKind}
use Rattle.typst_base.specs.declared.kind.SyntaxKind.TheVariants.{End}
use Rattle.typst_base.proofs.SetLemmas.{flag_at, holds-words}
use Rattle.typst_base.proofs.named_sets.atomic_code_expr.Goals as goal

atomic_code_expr-bits : (k : SyntaxKind) → flag_at ATOMIC_CODE_EXPR 0 (number_of k) ≡ atomic_code_expr_set k
unfolding flag_at
atomic_code_expr-bits End = refl
atomic_code_expr-bits _ = refl

pub returns : goal.returns
returns c = λ k. holds-words _ _ 0 (sym c.from_low_word.ensures) (lit< tt) k ∙ atomic_code_expr-bits k
