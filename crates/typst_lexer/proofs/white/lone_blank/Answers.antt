use Rattle.std.proofs.Common.{sym}
use Rattle.typst_lexer.proofs.LoneBlanks.{blank_is, line_is}
use Rattle.typst_lexer.proofs.white.lone_blank.Goals as goal

pub returns-in-len2-up-clause-lone : goal.returns-in-len2-up-clause-lone
returns-in-len2-up-clause-lone c = blank_is c.args.text.now c.in-len2-up.len_at_least c.if-byte-eq32.true (sym c.if-is_solid.ensures)

pub returns-in-len2-up-2-clause-lone : goal.returns-in-len2-up-2-clause-lone
returns-in-len2-up-2-clause-lone c = line_is c.args.text.now c.in-len2-up.len_at_least c.if-byte-eq10.true (sym c.if-is_solid-2.ensures)
