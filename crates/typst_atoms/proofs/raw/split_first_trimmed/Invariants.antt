use Rattle.std.proofs.Common.{◌≡◌, ◌≤◌, length}
use Rattle.typst_atoms.specs.Raws.{trimmed_in}
use Rattle.typst_atoms.proofs.raw.split_first_trimmed.Given as goal

abbrev pub invariant-loop-rest : goal.invariant-loop-rest
invariant-loop-rest l = record {
  same : trimmed_in l.rest ≡ trimmed_in l.initial.rest;
  within : length l.rest ≤ length l.initial.rest;
}

abbrev pub decreases-loop-rest : goal.decreases-loop-rest
decreases-loop-rest l = length l.rest
