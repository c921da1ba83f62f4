use Rattle.std.proofs.Common.{rules}
use Rattle.std.proofs.lemmas.Str.{chars_past_char}
use Rattle.typst_atoms.proofs.raw.split_first_char.Goals as goal

pub returns-clause-chars : goal.returns-clause-chars
returns-clause-chars c = search (rules, chars_past_char)
