use Rattle.std.proofs.Common.{◌≡◌, ◌++◌, map}
use Rattle.typst_shown.specs.Rows.{row_at, rows_of}
use Rattle.typst_shown.proofs.listed.rows.Given as goal

abbrev pub invariant-loop-node : goal.invariant-loop-node
invariant-loop-node l = rows_of l.root ≡ l.rows.items ++ map row_at l.node-iterator
