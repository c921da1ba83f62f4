use Rattle.typst_lexer.proofs.LineComments.{line_ends}
use Rattle.typst_lexer.proofs.laws.line_comments_end_before_newlines.Goals as goal

pub returns : goal.returns
returns c = line_ends
