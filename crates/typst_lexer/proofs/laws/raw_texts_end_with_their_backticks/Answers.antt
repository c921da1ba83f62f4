use Rattle.typst_lexer.proofs.RawTexts.{raw_ends, two_are_raw}
use Rattle.typst_lexer.proofs.laws.raw_texts_end_with_their_backticks.Goals as goal

pub returns-clause-two : goal.returns-clause-two
returns-clause-two c = two_are_raw

pub returns-clause-other : goal.returns-clause-other
returns-clause-other c = raw_ends
