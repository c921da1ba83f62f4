use Rattle.std.proofs.Common.{◌≡◌, rules, sym, ◌∙◌}
use Rattle.std.specs.Option.{option_copied}
use Rattle.typst_atoms.specs.SameViews.{same_parts, same_parts_are}
use Rattle.typst_atoms.proofs.same_views.Parts.are_same.Goals as goal

pub returns-then-eq-clause-same : goal.returns-then-eq-clause-same
returns-then-eq-clause-same c =
    let node = option_copied c.args.self.node in
    let other = option_copied c.args.other.node in
    let is : c.are_same_nodes.result ≡ same_parts c.args.self.kind node c.args.other.kind other = search rules in
    let law = same_parts_are c.args.self.kind c.args.other.kind node other in
    (λ t. law.0 (sym is ∙ t), λ e. is ∙ law.1 e)
