use Rattle.std.proofs.Common.{◌≡◌, ◌*◌, ◌≤◌, take, sum_by}
use Rattle.typst_lines.specs.Columns.{width}
use Rattle.typst_lines.proofs.column.ColumnUnit.columns.Given as goal

abbrev pub invariant-loop-byte : goal.invariant-loop-byte
invariant-loop-byte l = record {
  counted : l.columns ≡ sum_by (width l.self) (take l.byte-index l.bytes);
  few : l.columns ≤ 2 * l.byte-index;
}
