use Rattle.std.proofs.Common.{◌≡◌, ◌+◌, ◌<◌, ◌^◌, suc, length, take, drop, ◌++◌, ◌||◌}
use Rattle.typst_node.specs.Text.{text_of_all}
use Rattle.typst_node.specs.Count.{count_of_all}
use Rattle.typst_node.specs.Diagnosis.{any_has_error, any_has_warning}
use Rattle.typst_node.specs.ChildEnds.{ends_from}
use Rattle.typst_node.proofs.node.inner.measure.Given as goal

abbrev pub invariant-loop-i : goal.invariant-loop-i
invariant-loop-i l = record {
  fits : (l.len < 2 ^ 64) × (l.descendants < 2 ^ 64);
  len : l.len + length (text_of_all (drop l.i l.children)) ≡ length (text_of_all l.children);
  descendants : l.descendants + count_of_all (drop l.i l.children) ≡ suc (count_of_all l.children);
  errors : (l.diagnosis.errors || any_has_error (drop l.i l.children)) ≡ any_has_error l.children;
  warnings : (l.diagnosis.warnings || any_has_warning (drop l.i l.children)) ≡ any_has_warning l.children;
  ends : take l.i l.ends ++ ends_from l.len (drop l.i l.children) ≡ ends_from 0 l.children;
  many : length l.ends ≡ length l.children;
}
