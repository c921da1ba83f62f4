use Rattle.std.proofs.Common.{sym, ◌∙◌}
use Rattle.typst_lexer.proofs.Signs.{math_char}
use Rattle.typst_lexer.proofs.math.enter_math_sign.Goals as goal

pub returns-then-begins_alphanumeric : goal.returns-then-begins_alphanumeric
returns-then-begins_alphanumeric c =
    c.enter_first.ensures ∙ sym (math_char c.args.window.now (sym c.begins_alphanumeric.ensures ∙ c.if-begins_alphanumeric.true))
