-- What a span points to.
use Rattle.std.specs.Prelude.{ℕ, ◌==◌, nat_lt, if◌then◌else◌}
use Rattle.std.specs.declared.ops.Range.{Range as Interval}
use Rattle.typst_base.specs.Span.{SpanParts, range_base, range_of}
use Rattle.typst_base.specs.declared.span.SpanKind.{SpanKind}
use Rattle.typst_base.specs.declared.span.SpanKind.TheVariants.{Detached, Number, Range}

-- the number of a node
abbrev pub to_number : ℕ → ℕ → SpanKind
to_number id n = Number id (record { 0 = n })

-- a range of bytes
abbrev pub to_range : ℕ → Interval ℕ → SpanKind
to_range id range = Range id range

-- What a span points to. A span without a file points to nothing. A span with a low value below `range_base` points to
-- a node, and any other span to a range of its file.
abbrev pub span_kind_of : SpanParts → SpanKind
span_kind_of s =
    if s.file == 0 then Detached
    else (if nat_lt s.low range_base then to_number s.file s.low else to_range s.file (range_of s.low))
