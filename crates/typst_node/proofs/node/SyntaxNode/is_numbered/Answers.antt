use Rattle.std.proofs.Common.{arith, ◌≡◌, ◌≤◌, ◌^◌, ap, sym, ◌∙◌, subst}
use Rattle.typst_node.specs.Numbered.{IsNumberedFor}
use Rattle.typst_node.proofs.Ordered.{numbered_from_within, within_from_numbered}
use Rattle.typst_node.proofs.node.SyntaxNode.is_numbered.Goals as goal

pub returns-in-Some : goal.returns-in-Some
returns-in-Some c =
    let file : c.in-Some.id ≡ c.args.self.now.label.span.file = c.in-Some.ensures.1 ∙ ap (λ t. t.label.span.file) c.self.view_is in
    let some : 1 ≤ c.in-Some.id = rw c.in-Some.ensures.1 (omega (arith, c.in-Some.ensures.0)) in (
      λ h. (c.in-Some.id, some, numbered_from_within c.in-Some.id 2 (2 ^ 47) c.args.self.now (omega arith) (omega arith) (c.is_within.ensures.0 h)),
      λ n. c.is_within.ensures.1 (within_from_numbered c.in-Some.id c.args.self.now (subst (λ f. IsNumberedFor f c.args.self.now) (sym n.2.in_file.0.0 ∙ sym file) n.2)),
    )
