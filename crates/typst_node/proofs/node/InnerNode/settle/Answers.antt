use Rattle.std.proofs.Common.{arith, ◌+◌, ap, subst, ◌∙◌}
use Rattle.typst_node.specs.Diagnosis.{any_has_error, any_has_warning}
use Rattle.typst_node.specs.ChildEnds.{AreEnds}
use Rattle.typst_node.proofs.Opens.{part_count}
use Rattle.typst_node.proofs.node.InnerNode.settle.Goals as goal

pub returns-clause-measured : goal.returns-clause-measured
returns-clause-measured c =
    let items = c.args.self.now.children.items in
    let counts = part_count items c.args.change.now.from (c.args.change.now.from + c.args.change.now.many) (omega arith) in
    let held = c.settle_ends.ensures.diagnosis ∙ c.set_diagnosis.ensures.diagnosis in
    record {
      descendants = omega (arith, counts, c.requires.stale.descendants, c.requires.added.descendants);
      errors = ap (λ d. d.errors) held ∙ c.diagnosis_after-held.ensures.errors ∙ ap any_has_error c.deref.ensures.value;
      warnings = ap (λ d. d.warnings) held ∙ c.diagnosis_after-held.ensures.warnings ∙ ap any_has_warning c.deref.ensures.value;
      ends = subst (AreEnds c.settle_ends.new.self.ends) c.deref-2.ensures.value c.settle_ends.ensures.ends;
    }
