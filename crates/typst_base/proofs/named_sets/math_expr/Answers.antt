-- The bits of the word are the kinds of the list.
use Rattle.std.proofs.Common.{◌≡◌, ◌∙◌, refl, sym, lit<}
use Rattle.typst_base.specs.KindNumber.{number_of}
use Rattle.typst_base.specs.NamedSets.{math_expr_set}
use Rattle.typst_base.specs.declared.named_sets.TheConstants.{MATH_EXPR}
use Rattle.typst_base.specs.declared.kind.SyntaxKind.{SyntaxKind}
use Rattle.typst_base.specs.declared.kind.SyntaxKind.TheVariants.{End}
use Rattle.typst_base.proofs.SetLemmas.{flag_at, holds-words}
use Rattle.typst_base.proofs.named_sets.math_expr.Goals as goal

math_expr-bits : (k : SyntaxKind) → flag_at MATH_EXPR 0 (number_of k) ≡ math_expr_set k
unfolding flag_at
math_expr-bits End = refl
math_expr-bits _ = refl

pub returns : goal.returns
returns c = λ k. holds-words _ _ 0 (sym c.from_low_word.ensures) (lit< tt) k ∙ math_expr-bits k
