use Rattle.std.proofs.Common.{Option, subst, ap, sym, ◌∙◌}
use Rattle.typst_ast.specs.Expr.{IsOptionalExprOf}
use Rattle.typst_node.specs.Children.{all_in, behind_first, first_of}
use Rattle.typst_atoms.specs.ExprKinds.{is_expr_kind}
use Rattle.typst_node.specs.Tree.{Tree}
use Rattle.typst_ast.proofs.Behind.{third_of-behind}
use Rattle.typst_ast.proofs.nodes.third_expr.Goals as goal

pub returns : goal.returns
returns c =
    let P : Option Tree → Type 0 = λ o. IsOptionalExprOf o c.first_expr_in.result in
    subst P
    (ap (λ ts. first_of (all_in is_expr_kind ts)) (c.behind_first_expr-behind_two.ensures ∙ ap (behind_first is_expr_kind) c.behind_first_expr-behind_one.ensures)
    ∙ sym (third_of-behind is_expr_kind c.args.nodes.now))
    c.first_expr_in.ensures
