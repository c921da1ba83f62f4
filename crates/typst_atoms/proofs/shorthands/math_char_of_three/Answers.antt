use Rattle.std.proofs.Common.{◌≡◌, ◌∷◌, [], ◌∙◌, sym, ℕ, List, arith}
use Rattle.std.proofs.lemmas.Grind.{common_steps}
use Rattle.typst_atoms.proofs.Lengths.{among_as_long, as_long}
use Rattle.typst_atoms.specs.Shorthands.{char_for, math_shorthands}
use Rattle.typst_atoms.proofs.shorthands.math_char_of_three.Goals as goal

pub returns-in_default : goal.returns-in_default
returns-in_default c =
    let text : List ℕ = c.args.first ∷ c.args.second ∷ c.args.third ∷ [] in
    let none : 0 ≡ char_for (as_long math_shorthands text) text = grind (arith, common_steps) in
    none ∙ sym (among_as_long math_shorthands text)
