use Rattle.std.proofs.Common.{ap, sym, ◌∙◌}
use Rattle.typst_node.proofs.Edited.{inner_kids}
use Rattle.typst_node.proofs.node.SyntaxNode.into_children.Goals as goal

pub returns-in-Inner : goal.returns-in-Inner
returns-in-Inner c =
    ap (λ v. v.items) c.replace.ensures.value
    ∙ (ap (λ b. b.children.items) c.deref_mut.ensures.value
    ∙ sym (inner_kids c.self.inside _ _ c.in-Inner.inner c.args.self c.in-Inner.is c.self.view_is))
