use Rattle.std.proofs.Common.{◌≡◌, ◌≢◌, ℕ, ◌+◌, ◌<◌, take, sum_by}
use Rattle.std.specs.Str.{IsCharBoundary}
use Rattle.typst_lines.specs.Columns.{width}
use Rattle.typst_lines.proofs.column.ColumnUnit.place_at.Given as goal

abbrev pub invariant-loop-at : goal.invariant-loop-at
invariant-loop-at l = record {
  passed : l.left + sum_by (width l.self) (take l.at l.bytes) ≡ l.column;
  none : (k : ℕ) → k < l.at → IsCharBoundary l.bytes k → sum_by (width l.self) (take k l.bytes) ≢ l.column;
}
