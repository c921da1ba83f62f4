-- The segments that a mapper keeps.
use Rattle.std.specs.Prelude.{ℕ, ◌≡◌, ◌+◌, ◌-◌, ◌<◌, ◌≤◌, ◌||◌, nat_lt, if◌then◌else◌, List, [], ◌∷◌, map, slice_index, Option, Some, None}
use Rattle.std.specs.List.{flat_map}
use Rattle.std.specs.declared.ops.Range.{Range}
use Rattle.typst_base.specs.Mapping.{positions_of}
use Rattle.typst_base.specs.SubRange.{interval}
use Rattle.typst_base.specs.declared.mapper.Segment.{Segment}

-- the ranges of the segments
abbrev pub ranges : List Segment → List (Range ℕ)
ranges segments = map (λ s. interval s.start s.end) segments

-- The segments of these ranges. Each holds the number of mapped bytes up to its end, counted from `base`.
abbrev pub running : ℕ → List (Range ℕ) → List Segment
running base [] = []
running base (range ∷ rest) =
    record { start = range.start; end = range.end; upto = base + (range.end - range.start) }
    ∷ running (base + (range.end - range.start)) rest

-- The segment holds the mapped byte at this index. The byte's position is counted back from the segment's end.
pub record HasByte (segment : Segment) (rs : List (Range ℕ)) (index : ℕ) : Type 0 where
  pub past : index < segment.upto
  pub within : segment.upto ≤ index + segment.end
  pub position : slice_index (flat_map positions_of rs) index ≡ segment.end - (segment.upto - index)

-- The first segment that starts after its own end, or before the end of the segment before it. For the first segment,
-- `before` is that end.
abbrev pub first_invalid : ℕ → List (Range ℕ) → Option (Range ℕ)
first_invalid before [] = None
first_invalid before (segment ∷ rest) =
    if nat_lt segment.end segment.start || nat_lt segment.start before then Some segment
    else first_invalid segment.end rest
