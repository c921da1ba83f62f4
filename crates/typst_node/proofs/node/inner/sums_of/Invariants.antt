use Rattle.std.proofs.Common.{◌≡◌, ◌+◌, ◌<◌, ◌^◌, suc, length, drop, ◌||◌}
use Rattle.typst_node.specs.Text.{text_of_all}
use Rattle.typst_node.specs.Count.{count_of_all}
use Rattle.typst_node.specs.Diagnosis.{any_has_error, any_has_warning}
use Rattle.typst_node.proofs.node.inner.sums_of.Given as goal

abbrev pub invariant-loop-child : goal.invariant-loop-child
invariant-loop-child l = record {
  fits : (l.len < 2 ^ 64) × (l.descendants < 2 ^ 64);
  len : l.len + length (text_of_all (drop l.child-index l.children)) ≡ length (text_of_all l.children);
  descendants : l.descendants + count_of_all (drop l.child-index l.children) ≡ suc (count_of_all l.children);
  errors : (l.diagnosis.errors || any_has_error (drop l.child-index l.children)) ≡ any_has_error l.children;
  warnings : (l.diagnosis.warnings || any_has_warning (drop l.child-index l.children)) ≡ any_has_warning l.children;
}
