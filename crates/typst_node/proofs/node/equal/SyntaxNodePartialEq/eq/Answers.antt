use Rattle.std.specs.Cmp.{both_ways}
use Rattle.typst_node.specs.Equal.{tree_eq, tree_same, tree_eq_same}
use Rattle.typst_node.proofs.node.equal.SyntaxNodePartialEq.eq.Goals as goal

pub returns-clause-is : goal.returns-clause-is
returns-clause-is c =
    let t = c.args.self.now in
    let u = c.args.other.now in
    both_ways c.same.result (tree_eq t u) (λ h. tree_eq_same t u (c.same.ensures.0 h)) (λ e. c.same.ensures.1 (tree_same t u e))
