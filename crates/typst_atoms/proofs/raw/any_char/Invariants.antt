use Rattle.std.proofs.Common.{true, false, length}
use Rattle.std.specs.List.{AllByRecursion}
use Rattle.std.specs.Str.{chars}
use Rattle.typst_atoms.specs.Raws.{AnyByRecursion}
use Rattle.typst_atoms.proofs.raw.any_char.Given as goal
use denote.Shadow.{shadow}
use denote.Text.{Utf8}

abbrev pub invariant-loop-first : goal.invariant-loop-first
invariant-loop-first g l = record {
  text : shadow (Utf8 l.rest);
  some : AnyByRecursion (λ c. goal.F-post g l.test c true) (chars l.rest) → AnyByRecursion (λ c. goal.F-post g l.test c true) (chars l.initial.rest);
  none : AllByRecursion (λ c. goal.F-post g l.test c false) (chars l.rest) → AllByRecursion (λ c. goal.F-post g l.test c false) (chars l.initial.rest);
}

abbrev pub decreases-loop-first : goal.decreases-loop-first
decreases-loop-first g l = length l.rest
