-- All spans so far point nowhere.
use Rattle.std.proofs.Common.{◌≡◌}
use Rattle.typst_base.specs.Span.{detached, first_attached}
use Rattle.typst_base.proofs.span.Span.find.Given as goal

abbrev pub invariant-loop-span : goal.invariant-loop-span
invariant-loop-span g l = record {
  can : (goal.iterator-loop-span g).can_next l.span-iterator;
  ends : (goal.iterator-loop-span g).is_finite l.span-iterator;
  none : first_attached l.yielded ≡ detached;
}
