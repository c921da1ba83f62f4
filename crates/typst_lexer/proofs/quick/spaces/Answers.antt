use Rattle.typst_lexer.proofs.QuickTokens.{spaces_found}
use Rattle.typst_lexer.proofs.quick.spaces.Goals as goal

pub returns-then-stops_space-clause-first : goal.returns-then-stops_space-clause-first
returns-then-stops_space-clause-first c m k other = spaces_found m k c.args.bytes.now c.blanks-len.result other c.blanks-len.ensures.value (c.stops_space.ensures c.if-stops_space.true)
