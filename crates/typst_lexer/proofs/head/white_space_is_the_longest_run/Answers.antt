use Rattle.typst_lexer.proofs.WhiteRuns.{white_is_longest}
use Rattle.typst_lexer.proofs.head.white_space_is_the_longest_run.Goals as goal

pub returns : goal.returns
returns c = white_is_longest
