use Rattle.typst_lexer.proofs.QuickTokens.{words_found}
use Rattle.typst_lexer.proofs.quick.words.Goals as goal

pub returns-then-stops_text-clause-first : goal.returns-then-stops_text-clause-first
returns-then-stops_text-clause-first c k letter = words_found k c.args.bytes.now c.text_len-len.result letter c.text_len-len.ensures.value (c.stops_text.ensures c.if-stops_text.true)
