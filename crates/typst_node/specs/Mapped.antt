-- Trees whose nodes have the places of their mapped bytes.
use Rattle.std.specs.Prelude.{ℕ, ◌≡◌, ◌+◌, ◌-◌, ◌^◌, ◌&&◌, nat_lt, if◌then◌else◌, List, map, length, slice_index, Option, Some, None}
use Rattle.std.specs.Option.{option_map}
use Rattle.std.specs.declared.ops.Range.{Range}
use Rattle.typst_base.specs.Mapping.{Mapping, mapped}
use Rattle.typst_base.specs.Span.{ranged}
use Rattle.typst_base.specs.SubRange.{interval, cut_sub_end}
use Rattle.typst_node.specs.Tree.{HintText, WarningText, Content, AsLeaf, AsError, AsInner, Label, Tree}
use Rattle.typst_node.specs.Preorder.{at}
use Rattle.typst_node.specs.Text.{text, offset}

-- the part between two ends, if it isn't empty; the upper end is cut
abbrev pub part_between : ℕ → ℕ → Option (Range ℕ)
part_between start end =
    if nat_lt start end && nat_lt start (2 ^ 32 - 1) then Some (interval start (cut_sub_end end)) else None

-- the mapped place of a part of a node with these bytes of the mapped text, counted from the node's place
abbrev pub mapped_part : Mapping → Range ℕ → Option (Range ℕ) → Option (Range ℕ)
mapped_part m bytes None = None
mapped_part m bytes (Some part) =
    let origin = slice_index m.positions bytes.start in
    if nat_lt (bytes.end - bytes.start) part.end then None
    else part_between
    (slice_index m.positions (bytes.start + part.start) - origin)
    (slice_index m.positions (bytes.start + part.end - 1) + 1 - origin)

-- the hint with its sub-range mapped
abbrev pub mapped_hint : Mapping → Range ℕ → HintText → HintText
mapped_hint m bytes h = record { text = h.text; sub_range = mapped_part m bytes h.sub_range }

-- the warning with its sub-range and those of its hints mapped
abbrev pub mapped_warning : Mapping → Range ℕ → WarningText → WarningText
mapped_warning m bytes w = record {
  sub_range = mapped_part m bytes w.sub_range;
  message = w.message;
  hints = map (mapped_hint m bytes) w.hints;
}

-- the content with an error's hints mapped, and with this number as an inner node's bound
abbrev pub mapped_content : Mapping → Range ℕ → ℕ → Content → Content
mapped_content m bytes n (AsLeaf kind text) = AsLeaf kind text
mapped_content m bytes n (AsError text message hints) = AsError text message (map (mapped_hint m bytes) hints)
mapped_content m bytes n (AsInner kind bound) = AsInner kind n

-- the label of a node with these bytes of the mapped text
abbrev pub mapped_label : Mapping → ℕ → Range ℕ → Label → Label
mapped_label m id bytes l =
    let place = mapped m bytes in
    let span = ranged id place.start place.end in
    record {
      span = span;
      warnings = map (mapped_warning m bytes) l.warnings;
      content = mapped_content m bytes span.low l.content;
    }

-- the bytes of a tree whose text begins at this offset
abbrev pub bytes_from : ℕ → Tree → Range ℕ
bytes_from start t = interval start (start + length (text t))

-- the label that the node at a path of a tree gets for the bytes of its text
abbrev pub mapped_there : Mapping → ℕ → Tree → List ℕ → Tree → Label
mapped_there m id whole path t = mapped_label m id (bytes_from (offset path whole) t) t.label

-- the label of a tree's node
abbrev pub label_of : Tree → Label
label_of t = t.label

-- Each path leads to a node exactly if it did before. The node has its old label, except that the label has the place
-- of its bytes, its number as an inner node's bound, and its sub-ranges mapped.
abbrev pub IsMapped : Mapping → ℕ → Tree → Tree → Type 0
IsMapped m id old new =
    (path : List ℕ) → option_map label_of (at path new) ≡ option_map (mapped_there m id old path) (at path old)
