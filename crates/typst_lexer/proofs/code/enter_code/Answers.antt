use Rattle.std.proofs.Common.{sym, ◌∙◌}
use Rattle.typst_lexer.proofs.Signs.{code_bracket, code_name}
use Rattle.typst_lexer.proofs.code.enter_code.Goals as goal

pub returns-then-begins_name_start : goal.returns-then-begins_name_start
returns-then-begins_name_start c = c.enter_name.ensures ∙ sym (code_name c.args.before c.args.window.now (sym c.begins_name_start.ensures ∙ c.if-begins_name_start.true))

pub returns-then-begins_bracket : goal.returns-then-begins_bracket
returns-then-begins_bracket c = c.enter_bracket.ensures ∙ sym (code_bracket c.args.before c.args.window.now (sym c.begins_bracket.ensures ∙ c.if-begins_bracket.true))
