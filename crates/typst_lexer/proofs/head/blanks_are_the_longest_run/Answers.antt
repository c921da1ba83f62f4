use Rattle.typst_lexer.proofs.WhiteRuns.{blanks_are_longest}
use Rattle.typst_lexer.proofs.head.blanks_are_the_longest_run.Goals as goal

pub returns : goal.returns
returns c = blanks_are_longest
