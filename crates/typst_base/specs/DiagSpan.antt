-- How contracts see a diagnostic span.
use Rattle.std.specs.Prelude.{ℕ, ◌≡◌, ◌+◌, ◌-◌, ◌*◌, ◌^◌, ◌==◌, ◌&&◌, Bool, not, min, nat_lt, if◌then◌else◌, refl, Option, Some, None}
use Rattle.std.specs.Coded.{Coded, code_by, coded×, coded⊎, coded_ℕ, coded_option}
use Rattle.std.specs.declared.ops.Range.{Range as Interval}
use Rattle.std.proofs.Common.{◌⊎◌, inl, inr}
use Rattle.typst_base.specs.Span.{SpanParts, parts_code, range_base}
use Rattle.typst_base.specs.SubRange.{interval}

-- A diagnostic span is a span with an optional part of it, or an external range. An external range is a range of a file
-- that isn't a source file.
pub data DiagPlace : Type 0 where
  OfSpan : SpanParts → Option (Interval ℕ) → DiagPlace
  External : ℕ → Interval ℕ → DiagPlace

-- The span that a diagnostic span stores. For an external range, it has the range's file, and its low value is 2 ^ 47
-- plus the range's start.
abbrev pub span_of : DiagPlace → SpanParts
span_of (OfSpan span part) = span
span_of (External id range) = record { file = id; low = 2 ^ 47 + range.start }

-- whether a span has a file, and a low value that encodes the start of an external range
abbrev pub is_external : SpanParts → Bool
is_external s = not (s.file == 0) && (not (nat_lt s.low (2 ^ 47)) && nat_lt s.low range_base)

-- the word that encodes a part: the start times 2 ^ 32 plus the end, or 0 without a part
abbrev pub sub_range_word : Option (Interval ℕ) → ℕ
sub_range_word None = 0
sub_range_word (Some part) = part.start * 2 ^ 32 + part.end

-- The diagnostic span of a span and an optional part of it. A span that encodes an external range gives that range,
-- which ends at the word of the part.
abbrev pub of_span : SpanParts → Option (Interval ℕ) → DiagPlace
of_span span part =
    if is_external span then External span.file (interval (span.low - 2 ^ 47) (sub_range_word part)) else OfSpan span part

-- an end of an external range as it is stored: at most 2 ^ 46 - 1
abbrev pub cut_external_end : ℕ → ℕ
cut_external_end e = min e (2 ^ 46 - 1)

-- an external range of this file, with both ends cut
abbrev pub external : ℕ → ℕ → ℕ → DiagPlace
external id start end = External id (interval (cut_external_end start) (cut_external_end end))

abbrev range_code : Coded (Interval ℕ)
range_code = code_by (ℕ × ℕ) (coded× coded_ℕ coded_ℕ) (λ r. (r.start, r.end)) (λ p. record { start = p.0; end = p.1 }) (λ _. refl)

abbrev place_parts : DiagPlace → (SpanParts × Option (Interval ℕ)) ⊎ (ℕ × Interval ℕ)
place_parts (OfSpan span part) = inl (span, part)
place_parts (External id range) = inr (id, range)

abbrev of_parts : (SpanParts × Option (Interval ℕ)) ⊎ (ℕ × Interval ℕ) → DiagPlace
of_parts (inl p) = OfSpan p.0 p.1
of_parts (inr p) = External p.0 p.1

-- The parts of a diagnostic span give back the span.
pub of_parts_back : (d : DiagPlace) → of_parts (place_parts d) ≡ d
of_parts_back (OfSpan span part) = refl
of_parts_back (External id range) = refl

-- a diagnostic span is stored as one of its two cases
abbrev pub diag_code : Coded DiagPlace
diag_code =
    code_by ((SpanParts × Option (Interval ℕ)) ⊎ (ℕ × Interval ℕ))
    (coded⊎ (coded× parts_code (coded_option range_code)) (coded× coded_ℕ range_code)) place_parts of_parts of_parts_back
