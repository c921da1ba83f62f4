use Rattle.std.proofs.Common.{eqb, ap, ◌∙◌, lit<}
use Rattle.typst_atoms.specs.Trims.{without_leading, without_trailing}
use Rattle.typst_atoms.proofs.Trims.{trimmed_front_of_char, trimmed_end_of_char}
use Rattle.typst_atoms.proofs.label.Label.get.Goals as goal

pub returns : goal.returns
returns c =
    let front = trimmed_front_of_char 60 (lit< tt) _ _ c.trim_start_matches.ensures.matches in
    trimmed_end_of_char 62 (lit< tt) _ _ c.trim_end_matches.ensures.matches
    ∙ ap (without_trailing (λ b. eqb b 62)) (front ∙ ap (without_leading (λ b. eqb b 60)) c.leaf_text.ensures)
