-- What changes of the last tree keep.
use Rattle.std.proofs.Common.{◌≡◌, ℕ, ◌≤◌, List, ◌∷◌, take, arith}
use Rattle.typst_parser.specs.Events.{greatest}
use Rattle.typst_parser.specs.Raw.{raw_events}
use Rattle.typst_parser.specs.Retag.{retagged}
use Rattle.typst_parser.specs.Unique.{made_unique}
use Rattle.typst_parser.specs.declared.event.Event.{Event}
use Rattle.typst_parser.specs.Mistakes.{mistaken}
use Rattle.typst_parser.proofs.Mistaking.{mistaken_high}
use Rattle.typst_parser.proofs.RawLaws.{raw_levels}
use Rattle.typst_parser.proofs.Retags.{retag_high}
use Rattle.typst_parser.proofs.Tops.{high_tops, one_top, tops, tops_onto}
use Rattle.typst_parser.proofs.Uniques.{unique_high}
use Rattle.typst_grammar.specs.declared.expectation.Expectation.{Expectation}
use Rattle.typst_grammar.specs.declared.maps.Map.{Map}
use Rattle.typst_grammar.specs.declared.row.Unique.{Unique}

-- no tree has more levels
pub retag_low : (map : Map) (end : ℕ) (es : List Event) (n : ℕ) → greatest (take n (tops (retagged map end es))) ≤ greatest (take n (tops es))
retag_low map end es = high_tops (retagged map end es) es (retag_high map end es)

pub mistaken_low : (what : Expectation) (end : ℕ) (es : List Event) (n : ℕ) → greatest (take n (tops (mistaken what end es))) ≤ greatest (take n (tops es))
mistaken_low what end es = high_tops (mistaken what end es) es (mistaken_high what end es)

pub unique_low : (what : Unique) (text : List ℕ) (es : List Event) (n : ℕ) → greatest (take n (tops (made_unique what text es))) ≤ greatest (take n (tops es))
unique_low what text es = high_tops (made_unique what text es) es (unique_high what text es)

-- raw text is one tree of at most two levels
pub raw_tops : (hs : List ℕ) (bs : List ℕ) → (h : ℕ) × (h ≤ 2) × (tops_onto hs (raw_events bs) ≡ h ∷ hs)
raw_tops hs bs = (2, omega arith, one_top 2 hs (raw_events bs) (λ ns. raw_levels ns bs))
