use Rattle.std.proofs.Common.{sym, ◌∙◌}
use Rattle.typst_lexer.proofs.QuickTokens.{sign_stops, text_stops}
use Rattle.typst_lexer.proofs.quick.stops_text.Goals as goal

pub returns-in-len2-up : goal.returns-in-len2-up
returns-in-len2-up c e = text_stops c.args.bytes.now c.if-byte-eq32.true c.in-len2-up.len_at_least (sym c.is_no_word.ensures ∙ e)

pub returns-in-len1-up : goal.returns-in-len1-up
returns-in-len1-up c e = sign_stops c.args.bytes.now (sym c.is_text_end.ensures ∙ e)
