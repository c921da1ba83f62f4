use Rattle.std.proofs.Common.{◌≡◌, ◌≤◌, drop, length, reverse}
use Rattle.typst_parser.specs.Unique.{faults_of}
use Rattle.typst_parser.proofs.Seen.{Saw, views}
use Rattle.typst_parser.proofs.unique.faults_of.Given as goal

abbrev pub invariant-loop-left : goal.invariant-loop-left
invariant-loop-left l = record {
  within : l.left ≤ length l.found;
  saw : Saw l.seen (drop l.left l.found);
  so_far : reverse l.faults.items ≡ faults_of (views (drop l.left l.found));
}

abbrev pub decreases-loop-left : goal.decreases-loop-left
decreases-loop-left l = l.left
