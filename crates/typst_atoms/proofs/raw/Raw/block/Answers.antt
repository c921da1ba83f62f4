use Rattle.std.proofs.Common.{sym, ap, ◌∙◌}
use Rattle.typst_atoms.proofs.Answered.{answered_where_held, answered_elsewhere}
use Rattle.typst_atoms.proofs.raw.Raw.block.Goals as goal
use Rattle.typst_atoms.proofs.raw.Raw.block.Goals.{then-is_fenced, else-is_fenced}
use Rattle.typst_node.specs.Children.{children_in}
use Rattle.typst_atoms.specs.Raws.{trimmed_in}

pub returns : goal.returns
returns g c =
    elim c.if-is_fenced.branch [
      | then-is_fenced w ↦
          answered_where_held _ _ _ _ _ _ _ (ap trimmed_in (w.children.ensures ∙ ap children_in w.node.ensures)) (sym c.is_fenced.ensures ∙ w.if-is_fenced.true) w.result-is w.any_trimmed_char.ensures
      | else-is_fenced w ↦
          answered_elsewhere _ _ _ _ _ (sym c.is_fenced.ensures ∙ w.if-is_fenced.false) (w.result-is ∙ w.if-is_fenced.false)
    ]
