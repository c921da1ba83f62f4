use Rattle.std.proofs.Common.{sym, ◌∙◌, None, Some}
use Rattle.typst_accessors.proofs.Nth.{nth_view}
use Rattle.typst_accessors.proofs.lists.nth_expr.Goals as goal
use Rattle.typst_ast.specs.Exprs.{exprs_left}

pub returns-in-Some : goal.returns-in-Some
returns-in-Some c =
    c.to_untyped.ensures ∙ nth_view exprs_left c.args.exprs c.nth.new.self c.args.index (Some c.in-Some.expr) c.in-Some.ensures.ran

pub returns-in-None : goal.returns-in-None
returns-in-None c = sym (nth_view exprs_left c.args.exprs c.nth.new.self c.args.index None c.in-None.ensures.ran)
