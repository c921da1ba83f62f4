-- How a diagnostic span is stored: as a span and a word.
use Rattle.std.specs.Prelude.{ℕ, ◌≡◌, ◌+◌, ◌-◌, ◌/◌, ◌%◌, ◌^◌, nat_lt, if◌then◌else◌, refl, Bool, true, false, Option, Some, None}
use Rattle.std.proofs.Common.{ap, sym, arith}
use Rattle.std.proofs.lemmas.Bool.Decides.{nat_tests}
use Rattle.std.specs.declared.ops.Range.{Range as Interval}
use Rattle.typst_base.specs.Span.{SpanParts, numbered}
use Rattle.typst_base.specs.SubRange.{interval}
use Rattle.typst_base.specs.DiagSpan.{DiagPlace, OfSpan, External, is_external, span_of, sub_range_word}

-- the part that a word encodes, if its start is below its end
abbrev pub sub_range_of : ℕ → Option (Interval ℕ)
sub_range_of word =
    if nat_lt (word / 2 ^ 32) (word % 2 ^ 32) then Some (interval (word / 2 ^ 32) (word % 2 ^ 32)) else None

-- The diagnostic span that a span and a word encode. The word is the end of an external range, or a part of any other
-- span.
abbrev pub place_of : SpanParts → ℕ → DiagPlace
place_of span word =
    if is_external span then External span.file (interval (span.low - 2 ^ 47) word) else OfSpan span (sub_range_of word)

-- unless the span encodes an external range, the word is that of the part that it encodes
abbrev pub IsWord : SpanParts → ℕ → Type 0
IsWord span word = is_external span ≡ false → word ≡ sub_range_word (sub_range_of word)

-- the word that a diagnostic span stores
abbrev pub word_of : DiagPlace → ℕ
word_of (OfSpan span part) = sub_range_word part
word_of (External id range) = range.end

span_kept : (b : Bool) (s : SpanParts) (word : ℕ) → b ≡ is_external s
    → span_of (if b then External s.file (interval (s.low - 2 ^ 47) word) else OfSpan s (sub_range_of word)) ≡ s
span_kept true s word e =
    let low : 2 ^ 47 + (s.low - 2 ^ 47) ≡ s.low = grind (arith, nat_tests) in ap (λ n. numbered s.file n) low
span_kept false s word e = refl

word_kept : (b : Bool) (s : SpanParts) (word : ℕ) → b ≡ is_external s → IsWord s word
    → word_of (if b then External s.file (interval (s.low - 2 ^ 47) word) else OfSpan s (sub_range_of word)) ≡ word
word_kept true s word e h = refl
word_kept false s word e h = sym (h (sym e))

-- the diagnostic span that a span and a word encode stores that span
pub place_keeps_span : (s : SpanParts) (word : ℕ) → span_of (place_of s word) ≡ s
place_keeps_span s word = span_kept (is_external s) s word refl

-- the diagnostic span that a span and a word encode stores that word
pub place_keeps_word : (s : SpanParts) (word : ℕ) → IsWord s word → word_of (place_of s word) ≡ word
place_keeps_word s word h = word_kept (is_external s) s word refl h
