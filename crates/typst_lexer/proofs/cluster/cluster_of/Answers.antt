use Rattle.std.proofs.Common.{sym, ◌∙◌}
use Rattle.typst_lexer.proofs.Simple.{simple_cluster}
use Rattle.typst_lexer.proofs.cluster.cluster_of.Goals as goal

pub returns-then-is_simple : goal.returns-then-is_simple
returns-then-is_simple c = sym (simple_cluster c.args.c (sym c.is_simple.ensures ∙ c.if-is_simple.true))
