use Rattle.std.proofs.Common.{◌≡◌, ◌+◌, ◌-◌, ◌≤◌, length, drop}
use Rattle.typst_source_tests.specs.Lines.{line_len, line_reach}
use Rattle.typst_source_tests.proofs.lines.line_extent.Given as goal

abbrev pub invariant-loop-at : goal.invariant-loop-at
invariant-loop-at l = record {
  within : l.at ≤ length l.bytes;
  len : l.at + line_len (drop l.at l.bytes) ≡ line_len l.bytes;
  reach : l.at + line_reach (drop l.at l.bytes) ≡ line_reach l.bytes;
}

abbrev pub decreases-loop-at : goal.decreases-loop-at
decreases-loop-at l = length l.bytes - l.at
