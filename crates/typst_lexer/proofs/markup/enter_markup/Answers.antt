use Rattle.std.proofs.Common.{sym, ◌∙◌}
use Rattle.typst_lexer.proofs.Signs.{markup_text}
use Rattle.typst_lexer.proofs.markup.enter_markup.Goals as goal

pub returns-then-begins_letter : goal.returns-then-begins_letter
returns-then-begins_letter c = sym (markup_text c.args.before c.args.window.now (sym c.begins_letter.ensures ∙ c.if-begins_letter.true))
