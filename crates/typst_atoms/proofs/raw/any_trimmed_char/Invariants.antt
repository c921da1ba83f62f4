use Rattle.std.proofs.Common.{true, false, length}
use Rattle.std.specs.List.{AllByRecursion}
use Rattle.typst_atoms.specs.Raws.{AnyByRecursion, trimmed_in}
use Rattle.typst_atoms.proofs.raw.any_trimmed_char.Given as goal

abbrev pub invariant-loop-text : goal.invariant-loop-text
invariant-loop-text g l = record {
  some : AnyByRecursion (λ c. goal.F-post g l.test c true) (trimmed_in l.rest) → AnyByRecursion (λ c. goal.F-post g l.test c true) (trimmed_in l.initial.rest);
  none : AllByRecursion (λ c. goal.F-post g l.test c false) (trimmed_in l.rest) → AllByRecursion (λ c. goal.F-post g l.test c false) (trimmed_in l.initial.rest);
}

abbrev pub decreases-loop-text : goal.decreases-loop-text
decreases-loop-text g l = length l.rest
