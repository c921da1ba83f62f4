-- The first invalid segment is the first one in what is left.
use Rattle.std.proofs.Common.{◌≡◌, drop}
use Rattle.typst_base.specs.Segments.{first_invalid}
use Rattle.typst_base.proofs.mapper.find_invalid.Given as goal

abbrev pub invariant-loop-segment : goal.invariant-loop-segment
invariant-loop-segment l =
    first_invalid 0 l.segments ≡ first_invalid l.before (drop l.segment-index l.segments)
