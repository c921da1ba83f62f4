-- Where a found node is in the text.
use Rattle.std.specs.Prelude.{ℕ, ◌≡◌, ◌+◌, length, Option, Some, None}
use Rattle.std.specs.Option.{ForSome}
use Rattle.std.specs.declared.ops.Range.{Range}
use Rattle.typst_node.specs.Text.{text}
use Rattle.typst_linked.specs.Place.{Place, subtree}
use Rattle.typst_linked.specs.Ranges.{begin_of}

-- the range of the bytes of the node at a place, in the root's text, or none without a place
abbrev pub IsRangeAt : Option Place → Option (Range ℕ) → Type 0
IsRangeAt None range = range ≡ None
IsRangeAt (Some place) range =
    ForSome (subtree place) (λ t. range ≡ Some (record { start = begin_of place; end = begin_of place + length (text t) }))
