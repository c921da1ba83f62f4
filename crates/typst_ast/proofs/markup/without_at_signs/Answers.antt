use Rattle.std.proofs.Common.{lit<}
use Rattle.typst_atoms.proofs.Trims.{trimmed_front_of_char}
use Rattle.typst_ast.proofs.markup.without_at_signs.Goals as goal

pub returns : goal.returns
returns c = trimmed_front_of_char 64 (lit< tt) _ _ c.trim_start_matches.ensures.matches
