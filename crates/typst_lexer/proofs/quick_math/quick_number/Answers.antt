use Rattle.typst_lexer.proofs.QuickMath.{number_found}
use Rattle.typst_lexer.proofs.quick_math.quick_number.Goals as goal

pub returns-then-stops_number-clause-first : goal.returns-then-stops_number-clause-first
returns-then-stops_number-clause-first c = λ before digit.
    number_found before c.args.bytes.now c.digit_len-len.result digit c.digit_len-len.ensures.value (c.stops_number.ensures c.if-stops_number.true)
