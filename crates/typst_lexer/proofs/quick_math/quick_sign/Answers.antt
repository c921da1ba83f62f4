use Rattle.typst_lexer.proofs.QuickMathSigns.{signs_found}
use Rattle.typst_lexer.proofs.quick_math.quick_sign.Goals as goal

pub returns-in-Some-clause-first : goal.returns-in-Some-clause-first
returns-in-Some-clause-first c = signs_found c.args.bytes.now c.in-Some.kind c.in-len2-up.len_at_least c.in-Some.ensures
