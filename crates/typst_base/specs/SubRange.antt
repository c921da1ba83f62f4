-- Parts of a node's bytes.
use Rattle.std.specs.Prelude.{ℕ, ◌+◌, ◌-◌, ◌^◌, ◌<◌, min, Option, SomeIff}
use Rattle.std.specs.declared.ops.Range.{Range}

-- a range from its two ends
abbrev pub interval : ℕ → ℕ → Range ℕ
interval start end = record { start = start; end = end }

-- an end of a sub-range as it is stored: at most 2 ^ 32 - 1
abbrev pub cut_sub_end : ℕ → ℕ
cut_sub_end e = min e (2 ^ 32 - 1)

-- a range moved up by an offset
abbrev pub moved : Range ℕ → ℕ → Range ℕ
moved range offset = interval (range.start + offset) (range.end + offset)

-- the answer is the part between the two ends, with the upper one cut, exactly if that part isn't empty
abbrev pub MakesSubRange : Option (Range ℕ) → ℕ → ℕ → Type 0
MakesSubRange answer start end =
    SomeIff answer ((start < end) × (start < 2 ^ 32 - 1)) (interval start (cut_sub_end end))
