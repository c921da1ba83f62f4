use Rattle.std.proofs.Common.{sym, ◌∙◌}
use Rattle.std.specs.Char.{is_whitespace}
use Rattle.typst_lexer.proofs.Ascii.{low_begins}
use Rattle.typst_lexer.proofs.classes.begins_space.Goals as goal

pub returns-then-begins_low : goal.returns-then-begins_low
returns-then-begins_low c = c.begins_space_byte.ensures ∙ low_begins is_whitespace c.args.text.now (sym c.begins_low.ensures ∙ c.if-begins_low.true)
