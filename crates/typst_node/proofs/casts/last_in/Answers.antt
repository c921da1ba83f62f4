use Rattle.typst_node.proofs.Lasts.{optional_last}
use Rattle.typst_node.proofs.casts.last_in.Goals as goal

pub returns : goal.returns
returns g c = optional_last _ _ _ _ _ _ _ _ c.over.ensures.left c.next_back.ensures.steps
