use Rattle.std.proofs.Common.{sym, ◌∙◌}
use Rattle.typst_lexer.specs.Classes.{is_blank}
use Rattle.typst_lexer.proofs.Ascii.{low_begins}
use Rattle.typst_lexer.proofs.classes.begins_blank.Goals as goal

pub returns-then-begins_low : goal.returns-then-begins_low
returns-then-begins_low c = c.begins_blank_byte.ensures ∙ low_begins is_blank c.args.text.now (sym c.begins_low.ensures ∙ c.if-begins_low.true)
