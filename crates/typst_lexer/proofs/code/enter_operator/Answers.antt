use Rattle.std.proofs.Common.{sym, ◌∙◌}
use Rattle.typst_lexer.proofs.Signs.{operator_bracket, operator_name}
use Rattle.typst_lexer.proofs.code.enter_operator.Goals as goal

pub returns-then-begins_name_start : goal.returns-then-begins_name_start
returns-then-begins_name_start c = c.enter_operator_name.ensures ∙ sym (operator_name c.args.before c.args.window.now (sym c.begins_name_start.ensures ∙ c.if-begins_name_start.true))

pub returns-then-begins_bracket : goal.returns-then-begins_bracket
returns-then-begins_bracket c = c.enter_bracket.ensures ∙ sym (operator_bracket c.args.before c.args.window.now (sym c.begins_bracket.ensures ∙ c.if-begins_bracket.true))
