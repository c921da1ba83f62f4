use Rattle.std.proofs.Common.{sym}
use Rattle.typst_lexer.proofs.QuickTokens.{parbreak_found}
use Rattle.typst_lexer.proofs.quick.parbreak.Goals as goal

pub returns-in-len3-up-clause-first : goal.returns-in-len3-up-clause-first
returns-in-len3-up-clause-first c k =
    parbreak_found k c.args.bytes.now c.in-len3-up.len_at_least c.if-first-eq10.true c.if-second-eq10.true (sym c.if-is_ascii_graphic.ensures.value)
