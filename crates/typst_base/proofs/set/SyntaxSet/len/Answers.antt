use Rattle.typst_base.proofs.KindListLemmas.{length-kinds_in}
use Rattle.typst_base.proofs.set.SyntaxSet.len.Goals as goal

pub returns : goal.returns
returns c = length-kinds_in c.args.self _ _ c.self.view_is c.self.invariant.0 c.self.invariant.1
