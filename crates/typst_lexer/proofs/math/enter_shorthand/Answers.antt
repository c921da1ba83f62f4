use Rattle.std.proofs.Common.{sym, ◌∙◌}
use Rattle.typst_lexer.proofs.Signs.{alone}
use Rattle.typst_lexer.proofs.math.enter_shorthand.Goals as goal

pub returns-then-begins_alone : goal.returns-then-begins_alone
returns-then-begins_alone c = c.enter_math_sign.ensures ∙ sym (alone c.args.window.now (sym c.begins_alone.ensures ∙ c.if-begins_alone.true))
