use Rattle.std.proofs.Common.{◌≡◌, rules, sym, ◌∙◌}
use Rattle.std.specs.Option.{option_copied}
use Rattle.typst_atoms.specs.SameViews.{same_trees, same_trees_are}
use Rattle.typst_atoms.proofs.same_views.are_same_nodes.Goals as goal

pub returns-in-Some-Some-clause-same : goal.returns-in-Some-Some-clause-same
returns-in-Some-Some-clause-same c =
    let is : c.eq.result ≡ same_trees (option_copied c.args.node) (option_copied c.args.other) = search rules in
    let law = same_trees_are (option_copied c.args.node) (option_copied c.args.other) in
    (λ t. law.0 (sym is ∙ t), λ e. is ∙ law.1 e)
