-- The bits of the word are the kinds of the list.
use Rattle.std.proofs.Common.{◌≡◌, ◌∙◌, refl, sym, lit<}
use Rattle.typst_base.specs.KindNumber.{number_of}
use Rattle.typst_base.specs.NamedSets.{pattern_leaf_set}
use Rattle.typst_base.specs.declared.named_sets.TheConstants.{PATTERN_LEAF}
use Rattle.typst_base.specs.declared.kind.SyntaxKind.{SyntaxKind}
use Rattle.typst_base.specs.declared.kind.SyntaxKind.TheVariants.{End}
use Rattle.typst_base.proofs.SetLemmas.{flag_at, holds-words}
use Rattle.typst_base.proofs.named_sets.pattern_leaf.Goals as goal

pattern_leaf-bits : (k : SyntaxKind) → flag_at PATTERN_LEAF 0 (number_of k) ≡ pattern_leaf_set k
unfolding flag_at
pattern_leaf-bits End = refl
pattern_leaf-bits _ = refl

pub returns : goal.returns
returns c = λ k. holds-words _ _ 0 (sym c.from_low_word.ensures) (lit< tt) k ∙ pattern_leaf-bits k
