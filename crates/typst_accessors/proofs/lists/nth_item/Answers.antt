use Rattle.std.proofs.Common.{sym, ◌∙◌, None, Some}
use Rattle.typst_accessors.proofs.Nth.{nth_view}
use Rattle.typst_accessors.proofs.lists.nth_item.Goals as goal
use Rattle.typst_node.specs.Items.{nodes_left}

pub returns-in-Some : goal.returns-in-Some
returns-in-Some g c =
    c.to_untyped.ensures
    ∙ nth_view (nodes_left g.T.AstNode.class) c.args.items c.nth.new.self c.args.index (Some c.in-Some.view) c.in-Some.ensures.ran

pub returns-in-None : goal.returns-in-None
returns-in-None g c =
    sym (nth_view (nodes_left g.T.AstNode.class) c.args.items c.nth.new.self c.args.index None c.in-None.ensures.ran)
