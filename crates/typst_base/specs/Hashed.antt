-- What spans and diagnostic spans feed to a hasher. The lemmas stand here since the laws of a trait cite them.
use Rattle.std.specs.Prelude.{◌≡◌, ◌+◌, ◌*◌, ◌^◌, ◌++◌, true}
use Rattle.std.proofs.Common.{ap}
use Rattle.std.specs.Hash as fed
use Rattle.std.specs.Hash.{HashWrites}
use Rattle.typst_base.specs.DiagSpan.{DiagPlace, span_of}
use Rattle.typst_base.specs.DiagWord.{word_of}
use Rattle.typst_base.specs.Equal.{span_eq, span_same, place_eq, place_same}
use Rattle.typst_base.specs.Span.{SpanParts}

-- a span feeds its file and its low value, as one word
abbrev pub span_input : SpanParts → HashWrites
span_input s = fed.u64 (s.file * 2 ^ 48 + s.low)

-- a diagnostic span feeds its span and the word that it stores
abbrev pub place_input : DiagPlace → HashWrites
place_input d = span_input (span_of d) ++ fed.u64 (word_of d)

-- equal spans feed the same input
pub spans_alike : (s t : SpanParts) → span_eq s t ≡ true → span_input s ≡ span_input t
spans_alike s t e = ap span_input ((span_same s t).0 e)

-- equal diagnostic spans feed the same input
pub places_alike : (d e : DiagPlace) → place_eq d e ≡ true → place_input d ≡ place_input e
places_alike d e h = ap place_input ((place_same d e).0 h)
