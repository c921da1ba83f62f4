use Rattle.std.proofs.Common.{lit<, refl, ◌∙◌}
use Rattle.typst_base.specs.KindNumber.{number_of}
use Rattle.typst_base.proofs.SetLemmas.{flag_at-none, holds-words}
use Rattle.typst_base.proofs.set.SyntaxSet.new.Goals as goal

pub returns : goal.returns
returns c = λ k. holds-words _ 0 0 refl (lit< tt) k ∙ flag_at-none (number_of k)
