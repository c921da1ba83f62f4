use Rattle.std.proofs.Common.{length}
use Rattle.typst_lexer.specs.Left.{left, tokens_left}
use Rattle.typst_source_tests.proofs.lexer.rows.shown.Given as goal

abbrev pub decreases-loop-token : goal.decreases-loop-token
decreases-loop-token l = length (tokens_left (left l.lexer))
