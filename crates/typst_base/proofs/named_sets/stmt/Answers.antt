-- The bits of the word are the kinds of the list.
use Rattle.std.proofs.Common.{◌≡◌, ◌∙◌, refl, sym, lit<}
use Rattle.typst_base.specs.KindNumber.{number_of}
use Rattle.typst_base.specs.NamedSets.{stmt_set}
use Rattle.typst_base.specs.declared.named_sets.TheConstants.{STMT}
use Rattle.typst_base.specs.declared.kind.SyntaxKind.{SyntaxKind}
use Rattle.typst_base.specs.declared.kind.SyntaxKind.TheVariants.{End}
use Rattle.typst_base.proofs.SetLemmas.{flag_at, holds-words}
use Rattle.typst_base.proofs.named_sets.stmt.Goals as goal

stmt-bits : (k : SyntaxKind) → flag_at STMT 0 (number_of k) ≡ stmt_set k
unfolding flag_at
stmt-bits End = refl
stmt-bits _ = refl

pub returns : goal.returns
returns c = λ k. holds-words _ _ 0 (sym c.from_low_word.ensures) (lit< tt) k ∙ stmt-bits k
