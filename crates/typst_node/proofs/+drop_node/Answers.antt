use Rattle.std.proofs.Common.{arith, rules, ℕ, ◌≡◌, ◌≤◌, ◌<◌, ◌+◌, ◌*◌, List, [], ◌∷◌, length, length-append, refl, sym, ap, ◌∙◌}
use denote.Param.Weighed.{most}
use Rattle.typst_node.specs.Tree.{Tree, forest}
use Rattle.typst_node.specs.Preorder.{preorder}
use Rattle.typst_node.specs.Count.{count, count_of_all}
use Rattle.typst_node.specs.View.{below}
use Rattle.typst_node.specs.declared.node.InnerNode.{InnerNode}
use Rattle.typst_node.specs.declared.node.SyntaxNode.TheDeep.{size-SyntaxNode}
use Rattle.typst_node.proofs.+drop_node.Goals as goal

-- the measure of each tree of a list is less than that of a tree over all of them
most_nodes : (ts : List Tree) → most size-SyntaxNode ts ≤ 3 * (count_of_all ts + 1)
most_nodes [] = omega arith
most_nodes (t ∷ ts) = let one : size-SyntaxNode t ≡ 3 * (count t + 1) + 0 = refl in omega (arith, one, most_nodes ts, length-append (preorder t.children) (preorder (forest ts)))

lower : {a b c : ℕ} → a ≤ b → 2 * b + 0 < c → 2 * a + 0 < c
lower h k = omega arith

pub node::SyntaxNode::drop-drop-requires : goal.node::SyntaxNode::drop-drop-requires
node::SyntaxNode::drop-drop-requires t c κs =
    let kids : c.replace.result.items ≡ below c.self.inside.node = ap (λ v. v.items) (c.replace.ensures.value ∙ ap (λ (inner : InnerNode). inner.children) c.deref_mut.ensures.value) ∙ sym (ap below c.in-Inner.is) in
    let many : length (preorder (forest c.replace.result.items)) ≡ length (preorder c.args.self.children) = ap (λ (ts : List Tree). length (preorder (forest ts))) kids ∙ ap (λ (u : Tree). length (preorder u.children)) c.self.view_is in
    (((lower (most_nodes c.replace.result.items) (omega (arith, many, c.decreases)), tt), tt), search rules)
