use Rattle.std.proofs.Common.{◌≡◌, ◌||◌, drop}
use Rattle.typst_node.specs.Diagnosis.{any_has_error, any_has_warning}
use Rattle.typst_node.proofs.node.settle.diagnosis_of.Given as goal

abbrev pub invariant-loop-node : goal.invariant-loop-node
invariant-loop-node l = record {
  errors : (l.diagnosis.errors || any_has_error (drop l.node-index l.nodes)) ≡ any_has_error l.nodes;
  warnings : (l.diagnosis.warnings || any_has_warning (drop l.node-index l.nodes)) ≡ any_has_warning l.nodes;
}
