-- How contracts see a mapper, and what it answers.
use Rattle.std.specs.Prelude.{ℕ, ◌≡◌, ◌+◌, ◌-◌, ◌≤◌, nat_lt, if◌then◌else◌, List, [], ◌∷◌, ◌++◌, slice_index, refl}
use Rattle.std.specs.Coded.{Coded, code_by, coded×, coded_ℕ, coded_list}
use Rattle.std.specs.List.{flat_map, fold, range_with_len}
use Rattle.std.specs.declared.ops.Range.{Range}
use Rattle.typst_base.specs.SubRange.{interval}

-- the original positions of all mapped bytes, in order, and the first position
pub record Mapping : Type 0 where
  pub positions : List ℕ
  pub first : ℕ

-- a mapping is stored as the pair of its fields
abbrev pub mapping_code : Coded Mapping
mapping_code =
    code_by (List ℕ × ℕ) (coded× (coded_list coded_ℕ) coded_ℕ) (λ m. (m.positions, m.first)) (λ p. record { positions = p.0; first = p.1 }) (λ _. refl)

-- the positions of the bytes of a segment
abbrev pub positions_of : Range ℕ → List ℕ
positions_of segment = range_with_len segment.start (segment.end - segment.start)

-- where the first segment starts, or 0 without segments
abbrev pub first_start : List (Range ℕ) → ℕ
first_start [] = 0
first_start (segment ∷ rest) = segment.start

-- the mapping of a list of segments
abbrev pub mapping_of : List (Range ℕ) → Mapping
mapping_of segments = record { positions = flat_map positions_of segments; first = first_start segments }

-- where the last segment ends, or 0 without segments
abbrev pub last_end : List (Range ℕ) → ℕ
last_end segments = fold (λ _ segment. segment.end) 0 segments

-- the segment starts at or after the end of the last one before it, and at or before its own end
abbrev pub IsSoundBehind : List (Range ℕ) → Range ℕ → Type 0
IsSoundBehind before segment = (last_end before ≤ segment.start) × (segment.start ≤ segment.end)

-- each segment is sound after those before it
abbrev pub AreSound : List (Range ℕ) → Type 0
AreSound segments =
    (before rest : List (Range ℕ)) (segment : Range ℕ) → segments ≡ before ++ (segment ∷ rest) → IsSoundBehind before segment

-- this segment is the first one that isn't sound after those before it
pub record IsFirstUnsound (segments : List (Range ℕ)) (segment : Range ℕ) : Type 0 where
  pub sound : List (Range ℕ)
  pub rest : List (Range ℕ)
  pub parts : segments ≡ sound ++ (segment ∷ rest)
  pub before : AreSound sound
  pub here : ¬ (IsSoundBehind sound segment)

-- The original range of a range of mapped bytes. It begins at the position of the first byte and ends after the
-- position of the last byte. An empty range maps to the place after the byte before it, or to the first position.
abbrev pub mapped : Mapping → Range ℕ → Range ℕ
mapped m range =
    let behind = slice_index m.positions (range.end - 1) + 1 in
    if nat_lt range.start range.end then interval (slice_index m.positions range.start) behind
    else (if nat_lt 0 range.end then interval behind behind else interval m.first m.first)

-- how far the position of the byte at the offset plus i lies after that of the byte at the offset
abbrev pub start_within : Mapping → ℕ → ℕ → ℕ
start_within m offset i = slice_index m.positions (offset + i) - slice_index m.positions offset

-- how far the end of the byte before the offset plus i lies after the position of the byte at the offset
abbrev pub end_within : Mapping → ℕ → ℕ → ℕ
end_within m offset i = slice_index m.positions (offset + i - 1) + 1 - slice_index m.positions offset
