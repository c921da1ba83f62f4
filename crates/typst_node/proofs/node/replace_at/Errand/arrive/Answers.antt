use Rattle.std.proofs.Common.{◌≡◌, List, ap, subst}
use Rattle.std.specs.Prelude.{IfSome}
use Rattle.typst_node.specs.Tree.{Tree}
use Rattle.typst_node.specs.EditBelow.{IsReplacement}
use Rattle.typst_node.specs.Moves.{AreNotedFor}
use Rattle.typst_node.proofs.node.replace_at.Errand.arrive.Goals as goal

pub returns-clause-done : goal.returns-clause-done
returns-clause-done c =
    let others : c.replace-others.result.items ≡ c.args.self.now.edit.others.items = ap (λ v. v.items) c.replace-others.ensures.value in
    subst (λ (ys : List Tree). IfSome c.replace_range-self.result (IsReplacement c.args.self.now.edit.from c.args.self.now.edit.to ys c.args.self.now.edit.growth c.args.node.now c.replace_range-self.new.self)) others c.replace_range-self.ensures.made

pub returns-clause-noted : goal.returns-clause-noted
returns-clause-noted c =
    let others : c.replace-others.result.items ≡ c.args.self.now.edit.others.items = ap (λ v. v.items) c.replace-others.ensures.value in
    subst (λ (ys : List Tree). IfSome c.replace_range-self.result (AreNotedFor c.args.self.now.edit.from c.args.self.now.edit.to ys c.args.node.now c.replace_range-self.new.noted)) others c.replace_range-self.ensures.noted
