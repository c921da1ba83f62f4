use Rattle.std.proofs.Common.{◌≡◌, ℕ, ◌∷◌, List, get_or, sym, subst, arith}
use Rattle.std.proofs.lemmas.Grind.{common_steps}
use Rattle.typst_node.specs.Tree.{trees}
use Rattle.typst_node.specs.Paths.{IsPath, no_tree}
use Rattle.typst_node.proofs.node.SyntaxNode.+node_at.Goals as goal

pub node_at-requires : goal.node_at-requires
node_at-requires t c =
    let path : IsPath (c.in-Some.index.now ∷ c.in-Some.rest.now) c.args.self.now = subst (λ (p : List ℕ). IsPath p c.args.self.now) c.in-Some.ensures.cases.0 c.requires in
    let child : c.index-child_slice-index.result ≡ get_or (trees c.args.self.now.children) c.in-Some.index.now no_tree = grind (arith, common_steps, c.index-child_slice-index.is, c.child_slice.ensures.children, path.0) in
    (omega (arith, c.decreases, c.in-Some.ensures.cases.1), subst (IsPath c.in-Some.rest.now) (sym child) path.1)
