use Rattle.std.proofs.Common.{lit<}
use Rattle.typst_atoms.proofs.Trims.{trimmed_end_of_char}
use Rattle.typst_ast.proofs.enum_number.without_dots.Goals as goal

pub returns : goal.returns
returns c = trimmed_end_of_char 46 (lit< tt) _ _ c.trim_end_matches.ensures.matches
