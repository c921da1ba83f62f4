-- The bytes of a tree's text that a diagnostic is about.
use Rattle.std.specs.Prelude.{ℕ, ◌+◌, ◌-◌, ◌==◌, ◌&&◌, nat_le, length, List, Option, Some, None, if◌then◌else◌, Bool}
use Rattle.std.specs.Option.{option_map}
use Rattle.std.specs.declared.ops.Range.{Range as Interval}
use Rattle.typst_base.specs.SubRange.{moved}
use Rattle.typst_base.specs.declared.diag_span.DiagSpanKind.{DiagSpanKind}
use Rattle.typst_base.specs.declared.diag_span.DiagSpanKind.TheVariants.{Detached, Number, Range}
use Rattle.typst_node.specs.Tree.{Tree}
use Rattle.typst_node.specs.Text.{text, offset}
use Rattle.typst_node.specs.Paths.{tree_at}
use Rattle.typst_linked.specs.Search.{with_number}

-- the bytes of the node that a path leads to
abbrev pub node_range : List ℕ → Tree → Interval ℕ
node_range path t = record { start = offset path t; end = offset path t + length (text (tree_at path t)) }

-- a part of these bytes, or all of them if there is no part or it isn't within them
abbrev pub part_within : Option (Interval ℕ) → Interval ℕ → Interval ℕ
part_within None whole = whole
part_within (Some part) whole = if nat_le part.end (whole.end - whole.start) then moved part whole.start else whole

-- whether the bytes of the range are within the text
abbrev pub is_within : Interval ℕ → Tree → Bool
is_within range t = nat_le range.start range.end && nat_le range.end (length (text t))

-- In a tree of the file, the bytes of the node with the number, or of its part. For a range it is the range itself, if
-- the text has these bytes.
abbrev pub place_in : DiagSpanKind → Tree → Option (Interval ℕ)
place_in Detached t = None
place_in (Number id num part) t =
    if id == t.label.span.file then option_map (λ path. part_within part (node_range path t)) (with_number num.0 t) else None
place_in (Range id range) t = if (id == t.label.span.file) && is_within range t then Some range else None
