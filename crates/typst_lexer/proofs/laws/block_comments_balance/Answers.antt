use Rattle.typst_lexer.proofs.BlockComments.{comment_closed}
use Rattle.typst_lexer.proofs.OpenComments.{comment_open}
use Rattle.typst_lexer.proofs.laws.block_comments_balance.Goals as goal

pub returns-clause-closed : goal.returns-clause-closed
returns-clause-closed c = comment_closed

pub returns-clause-unclosed : goal.returns-clause-unclosed
returns-clause-unclosed c = comment_open
