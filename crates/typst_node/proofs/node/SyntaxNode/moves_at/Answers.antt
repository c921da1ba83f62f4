use Rattle.std.proofs.Common.{◌≡◌, ◌+◌, ◌-◌, ◌++◌, List, sym, ap, subst, ◌∙◌}
use Rattle.std.specs.Prelude.{slice_range}
use Rattle.std.specs.List.{AllByRecursion}
use Rattle.typst_node.specs.Tree.{Tree, trees}
use Rattle.typst_node.specs.Paths.{trees_at}
use Rattle.typst_node.specs.Moves.{IsNodeNumber, numbers}
use Rattle.typst_node.proofs.NodeNumbers.{some_numbers}
use Rattle.typst_node.proofs.node.SyntaxNode.moves_at.Goals as goal

pub new-requires-clause-news : goal.new-requires-clause-news
new-requires-clause-news c =
    let t = c.args.self.now in
    let kids : c.child_slice-children.result.now ≡ trees_at c.args.path.now t = c.child_slice-children.ensures.children ∙ ap (λ (n : Tree). trees n.children) c.node_at.ensures in
    let w = c.args.window.now in
    subst (λ (ts : List Tree). AllByRecursion IsNodeNumber (numbers (slice_range ts w.start (w.start + c.args.noted.ahead) ++ slice_range ts (w.end - c.args.noted.behind) w.end))) (sym kids)
    (some_numbers c.requires.numbered.0 c.args.path.now t w.start (w.start + c.args.noted.ahead) (w.end - c.args.noted.behind) w.end c.requires.numbered.2)
