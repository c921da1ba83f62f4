-- What is measured of an inner node does not turn on its warnings.
use Rattle.std.proofs.Common.{◌≡◌, sym, ap, subst, ◌∙◌}
use Rattle.typst_node.specs.ChildEnds.{AreEnds}
use Rattle.typst_node.specs.Extras.{ExtraParts}
use Rattle.typst_node.specs.View.{IsMeasured}
use Rattle.typst_node.specs.declared.node.InnerNode.{InnerNode}

pub measured_under : (inner : InnerNode) (extras : ExtraParts) → extras.diagnosis ≡ inner.extras.diagnosis → extras.ends ≡ inner.extras.ends → IsMeasured inner → IsMeasured record inner { extras = extras }
measured_under inner extras held same m = record {
  descendants = m.descendants;
  errors = ap (λ d. d.errors) held ∙ m.errors;
  warnings = ap (λ d. d.warnings) held ∙ m.warnings;
  ends = subst (λ es. AreEnds es inner.children.items) (sym same) m.ends;
}
