use Rattle.std.proofs.Common.{length, ◌-◌, ◌≤◌}
use Rattle.typst_source.specs.Extents.{IsBeginning}
use Rattle.typst_source.proofs.extents.untouched.Given as goal

abbrev pub invariant-loop-now : goal.invariant-loop-now
invariant-loop-now l = record {
  is : IsBeginning l.extents l.now;
  before : l.now.reach ≤ l.start;
  inside : l.now.sums.bytes ≤ l.start;
}

abbrev pub decreases-loop-now : goal.decreases-loop-now
decreases-loop-now l = length l.extents - l.now.sums.blocks
