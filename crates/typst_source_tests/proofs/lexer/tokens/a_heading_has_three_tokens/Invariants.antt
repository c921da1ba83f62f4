use Rattle.std.proofs.Common.{length}
use Rattle.typst_lexer.specs.Left.{left, tokens_left}
use Rattle.typst_source_tests.proofs.lexer.tokens.a_heading_has_three_tokens.Given as goal

abbrev pub decreases-loop-token : goal.decreases-loop-token
decreases-loop-token g l = length (tokens_left (left l.lexer))
