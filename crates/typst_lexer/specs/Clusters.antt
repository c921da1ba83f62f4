-- Grapheme clusters, a character at a time, by the rules of UAX #29 as `unicode_segmentation` states them.
use Rattle.std.specs.Prelude.{ℕ, ◌&&◌, ◌||◌, not, Bool, true, false, Some, None}
use Rattle.ucd_breaks.specs.GraphemeClusterBreak.{grapheme_cluster_break}
use Rattle.ucd_derived.specs.IndicConjunctBreak.{indic_conjunct_break}
use Rattle.ucd_derived.specs.declared.IndicConjunctBreak.{IndicConjunctBreak}
use Rattle.ucd_derived.specs.declared.IndicConjunctBreak.TheVariants as classes
use Rattle.ucd_emoji.specs.Binary.{is_extended_pictographic}
use Rattle.unicode_segmentation.specs.Grapheme.{break_by_pair, is_consonant, is_extend, is_regional, is_zwj}
use Rattle.typst_lexer.specs.declared.cluster.Cluster.{Cluster}

-- the class of linkers of conjuncts
abbrev pub is_linker : IndicConjunctBreak → Bool
is_linker classes.Linker = true
is_linker _ = false

-- a linker goes on over a character of the class
abbrev pub extends_linker : IndicConjunctBreak → Bool
extends_linker classes.Extend = true
extends_linker _ = false

-- the cluster of a single character
abbrev pub cluster_of : ℕ → Cluster
cluster_of c = record {
  last = grapheme_cluster_break c;
  linker = is_linker (indic_conjunct_break c);
  pictograph = is_extended_pictographic c;
  joiner = false;
  half_flag = is_regional (grapheme_cluster_break c);
}

-- the cluster with one more character
abbrev pub with_char : Cluster → ℕ → Cluster
with_char cluster c = record {
  last = grapheme_cluster_break c;
  linker = is_linker (indic_conjunct_break c) || (extends_linker (indic_conjunct_break c) && cluster.linker);
  pictograph = is_extended_pictographic c || (is_extend (grapheme_cluster_break c) && cluster.pictograph);
  joiner = is_zwj (grapheme_cluster_break c) && cluster.pictograph;
  half_flag = is_regional (grapheme_cluster_break c) && not cluster.half_flag;
}

-- A character belongs to the cluster for more than its last character: it is a consonant after a linker, a pictograph
-- after a joined one, or the second half of a flag.
abbrev pub joins_by_context : Cluster → ℕ → Bool
joins_by_context cluster c =
    (cluster.linker && is_consonant (indic_conjunct_break c)) || (cluster.joiner && is_extended_pictographic c)
    || (cluster.half_flag && is_regional (grapheme_cluster_break c))

-- the next character belongs to the cluster
abbrev pub joins : Cluster → ℕ → Bool
joins cluster c = elim (break_by_pair true cluster.last (grapheme_cluster_break c)) [ None ↦ joins_by_context cluster c | Some breaks ↦ not breaks ]
