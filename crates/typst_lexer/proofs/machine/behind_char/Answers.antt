use Rattle.std.proofs.Common.{sym, ◌∙◌}
use Rattle.typst_lexer.proofs.Ascii.{behind_is_first}
use Rattle.typst_lexer.proofs.machine.behind_char.Goals as goal

pub returns-then-begins_undotted : goal.returns-then-begins_undotted
returns-then-begins_undotted c =
    c.behind_first.ensures ∙ sym (behind_is_first c.args.before c.args.window.now (sym c.begins_undotted.ensures ∙ c.if-begins_undotted.true))
