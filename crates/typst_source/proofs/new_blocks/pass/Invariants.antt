use Rattle.std.proofs.Common.{ℕ, ◌-◌, ◌<◌, ◌≤◌, length, drop}
use Rattle.typst_source.specs.Extents.{bytes_in, AreSums}
use Rattle.typst_source.proofs.new_blocks.pass.Given as goal

abbrev pub invariant-loop-now : goal.invariant-loop-now
invariant-loop-now l = record {
  sums : AreSums l.olds.extents.now l.now;
  skipped : (k : ℕ) → l.initial.now.blocks ≤ k → k < l.now.blocks → l.left < bytes_in (drop k l.olds.extents.now);
}

abbrev pub decreases-loop-now : goal.decreases-loop-now
decreases-loop-now l = length l.olds.extents.now - l.now.blocks
