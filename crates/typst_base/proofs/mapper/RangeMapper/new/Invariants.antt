-- The segments kept so far, with those that are still to come, are all segments; none of those is invalid after as
-- many bytes as were kept.
use Rattle.std.proofs.Common.{◌≡◌, ◌++◌, drop, None}
use Rattle.typst_base.specs.Segments.{first_invalid, running}
use Rattle.typst_base.proofs.mapper.RangeMapper.new.Given as goal

abbrev pub invariant-loop-segment : goal.invariant-loop-segment
invariant-loop-segment l = record {
  kept : l.kept.items ++ running l.upto (drop l.segment-index l.segments) ≡ running 0 l.segments;
  valid : first_invalid l.upto (drop l.segment-index l.segments) ≡ None;
}
