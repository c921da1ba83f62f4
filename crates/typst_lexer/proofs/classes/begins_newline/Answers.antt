use Rattle.std.proofs.Common.{sym, ◌∙◌}
use Rattle.typst_lexer.specs.Classes.{is_newline}
use Rattle.typst_lexer.proofs.Ascii.{low_begins}
use Rattle.typst_lexer.proofs.classes.begins_newline.Goals as goal

pub returns-then-begins_low : goal.returns-then-begins_low
returns-then-begins_low c = c.begins_newline_byte.ensures ∙ low_begins is_newline c.args.text.now (sym c.begins_low.ensures ∙ c.if-begins_low.true)
