use Rattle.std.proofs.Common.{arith}
use Rattle.typst_script.proofs.Blanks.{split_reads, split_every}
use Rattle.typst_script.proofs.path.until_dot.Goals as goal

pub returns-clause-reads : goal.returns-clause-reads
returns-clause-reads c = split_reads 46 (omega arith) _ _ c.split_once.ensures.cases

pub returns-clause-every : goal.returns-clause-every
returns-clause-every c = split_every 46 (omega arith) _ _ c.split_once.ensures.cases
