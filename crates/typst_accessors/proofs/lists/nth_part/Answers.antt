use Rattle.std.proofs.Common.{sym, ◌∙◌, None, Some}
use Rattle.typst_accessors.proofs.Nth.{nth_view}
use Rattle.typst_accessors.proofs.lists.nth_part.Goals as goal
use Rattle.typst_ast.specs.MathArgs.{items_left}

pub returns-in-Some : goal.returns-in-Some
returns-in-Some c =
    c.node_of_item.ensures ∙ nth_view items_left c.args.items c.nth.new.self c.args.index (Some c.in-Some.item) c.in-Some.ensures.ran

pub returns-in-None : goal.returns-in-None
returns-in-None c = sym (nth_view items_left c.args.items c.nth.new.self c.args.index None c.in-None.ensures.ran)
