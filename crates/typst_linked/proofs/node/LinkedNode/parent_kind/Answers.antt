use Rattle.std.proofs.Common.{◌∙◌, ap, sym, Some}
use Rattle.std.specs.Option.{option_map}
use Rattle.typst_linked.specs.Place.{last_step}
use Rattle.typst_linked.specs.Siblings.{kind_at, parent_tree}
use Rattle.typst_linked.proofs.Nearest.{parent_tree-child}
use Rattle.typst_linked.proofs.node.LinkedNode.parent_kind.Goals as goal

pub returns : goal.returns
returns c =
    ap Some c.kind.ensures.kind
    ∙ sym (ap (option_map kind_at) (ap parent_tree c.in_ok-parent.ensures ∙ parent_tree-child c.in_ok-parent.field-0.now (last_step c.args.self.now.path) ∙ c.get.ensures))
