use Rattle.typst_lines.proofs.Characters.{column_bytes, column_characters, column_units, offset_characters, offset_units}
use Rattle.typst_lines.proofs.LinesOf.{is_in_line, before_is}
use Rattle.typst_lines.proofs.laws.columns_count_characters.Goals as goal

pub returns-clause-in_line : goal.returns-clause-in_line
returns-clause-in_line c = is_in_line

pub returns-clause-before : goal.returns-clause-before
returns-clause-before c = before_is

pub returns-clause-bytes : goal.returns-clause-bytes
returns-clause-bytes c = column_bytes

pub returns-clause-characters : goal.returns-clause-characters
returns-clause-characters c = column_characters

pub returns-clause-utf16 : goal.returns-clause-utf16
returns-clause-utf16 c = column_units

pub returns-clause-characters_of_text : goal.returns-clause-characters_of_text
returns-clause-characters_of_text c = offset_characters

pub returns-clause-utf16_of_text : goal.returns-clause-utf16_of_text
returns-clause-utf16_of_text c = offset_units
