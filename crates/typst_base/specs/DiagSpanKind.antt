-- What a diagnostic span points to.
use Rattle.std.specs.Prelude.{ℕ, ◌^◌, ◌==◌, nat_lt, if◌then◌else◌, Option, Some, None}
use Rattle.std.specs.declared.ops.Range.{Range as Interval}
use Rattle.typst_base.specs.DiagSpan.{DiagPlace, OfSpan, External}
use Rattle.typst_base.specs.Span.{range_of}
use Rattle.typst_base.specs.SubRange.{moved}
use Rattle.typst_base.specs.declared.diag_span.DiagSpanKind.{DiagSpanKind}
use Rattle.typst_base.specs.declared.diag_span.DiagSpanKind.TheVariants.{Detached, Number, Range}
use Rattle.typst_base.specs.declared.span.SpanKind.{SpanKind}
use Rattle.typst_base.specs.declared.span.SpanKind.TheVariants.{Detached as Nowhere, Number as Node, Range as Bytes}

-- the number of a node, with an optional part of the node
abbrev pub to_number_part : ℕ → ℕ → Option (Interval ℕ) → DiagSpanKind
to_number_part id n part = Number id (record { 0 = n }) part

-- a range of bytes
abbrev pub to_bytes : ℕ → Interval ℕ → DiagSpanKind
to_bytes id range = Range id range

-- the part of a range, or the whole range where no part is given
abbrev pub part_of : Interval ℕ → Option (Interval ℕ) → Interval ℕ
part_of range None = range
part_of range (Some part) = moved part range.start

-- What a diagnostic span points to. An external range points to its bytes. A span without a file points to nothing. A
-- span with a low value below 2 ^ 47 points to a node, and any other span to a range of its file.
abbrev pub diag_kind_of : DiagPlace → DiagSpanKind
diag_kind_of (External id range) = to_bytes id range
diag_kind_of (OfSpan span part) =
    if span.file == 0 then Detached
    else (if nat_lt span.low (2 ^ 47) then to_number_part span.file span.low part
    else to_bytes span.file (part_of (range_of span.low) part))

-- what a span with an optional part points to: nothing, the part of a node, or the bytes of the part
abbrev pub with_part : SpanKind → Option (Interval ℕ) → DiagSpanKind
with_part Nowhere part = Detached
with_part (Node id num) part = Number id num part
with_part (Bytes id range) part = Range id (part_of range part)
