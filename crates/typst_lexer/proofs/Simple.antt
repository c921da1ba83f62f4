-- Characters of ASCII in grapheme clusters.
use Rattle.std.proofs.Common.{◌≡◌, ℕ, ◌<◌, Bool, true, false, refl, ap, ◌∙◌, arith}
use Rattle.std.specs.Prelude.{◌&&◌, ◌||◌, not, nat_lt, Some, None}
use Rattle.std.proofs.lemmas.Bool.Decides.{nat_tests}
use Rattle.ucd_table.specs.Rows.{in_ranges, value_in}
use Rattle.ucd_breaks.specs.GraphemeClusterBreak.{grapheme_cluster_break}
use Rattle.ucd_breaks.specs.GraphemeClusterBreakRows.{grapheme_cluster_break_rows}
use Rattle.ucd_breaks.specs.declared.GraphemeClusterBreak.{GraphemeClusterBreak}
use Rattle.ucd_breaks.specs.declared.GraphemeClusterBreak.TheVariants as breaks
use Rattle.ucd_derived.specs.IndicConjunctBreak.{indic_conjunct_break}
use Rattle.ucd_derived.specs.IndicConjunctBreakRows.{indic_conjunct_break_rows}
use Rattle.ucd_derived.specs.declared.IndicConjunctBreak.{IndicConjunctBreak}
use Rattle.ucd_derived.specs.declared.IndicConjunctBreak.TheVariants as classes
use Rattle.ucd_emoji.specs.Binary.{is_extended_pictographic}
use Rattle.ucd_emoji.specs.Ranges.{extended_pictographic_ranges}
use Rattle.unicode_segmentation.specs.Grapheme.{break_by_pair, is_consonant, is_regional}
use Rattle.typst_lexer.specs.declared.cluster.Cluster.{Cluster}
use Rattle.typst_lexer.specs.Bytes.{is_other, is_simple}
use Rattle.typst_lexer.specs.Clusters.{cluster_of, is_linker, joins}
use Rattle.typst_lexer.proofs.Ascii.{both, has}

abbrev breaks_off : GraphemeClusterBreak → Bool
breaks_off breaks.Other = true
breaks_off breaks.Control = true
breaks_off breaks.Cr = true
breaks_off breaks.Lf = true
breaks_off _ = false

abbrev has_none : IndicConjunctBreak → Bool
has_none classes.None = true
has_none _ = false

is_low : (b : ℕ) → b < 128 → nat_lt b 128 ≡ true
is_low b low = grind (arith, nat_tests)

break_is : (b : ℕ) → b < 128 → (breaks_off (grapheme_cluster_break b) && (not (is_simple b) || is_other (grapheme_cluster_break b))) ≡ true
unfolding value_in grapheme_cluster_break grapheme_cluster_break_rows
break_is b low =
    has (λ c. nat_lt c 128) (λ c. breaks_off (grapheme_cluster_break c) && (not (is_simple c) || is_other (grapheme_cluster_break c))) b low (is_low b low) refl

conjunct_is : (b : ℕ) → b < 128 → has_none (indic_conjunct_break b) ≡ true
unfolding value_in indic_conjunct_break indic_conjunct_break_rows
conjunct_is b low = has (λ c. nat_lt c 128) (λ c. has_none (indic_conjunct_break c)) b low (is_low b low) refl

pictograph_is : (b : ℕ) → b < 128 → not (is_extended_pictographic b) ≡ true
unfolding in_ranges extended_pictographic_ranges is_extended_pictographic
pictograph_is b low = has (λ c. nat_lt c 128) (λ c. not (is_extended_pictographic c)) b low (is_low b low) refl

other_is : (l : GraphemeClusterBreak) → is_other l ≡ true → l ≡ breaks.Other
other_is breaks.Other e = refl
other_is _ e = cc

none_is : (i : IndicConjunctBreak) → has_none i ≡ true → i ≡ classes.None
none_is classes.None e = refl
none_is _ e = cc

false_from : (v : Bool) → not v ≡ true → v ≡ false
false_from true e = cc
false_from false e = refl

-- A cluster that ends in a character with no property ends before each byte of ASCII.
no_join : (l g : GraphemeClusterBreak) (i : IndicConjunctBreak) (p x y z : Bool) → l ≡ breaks.Other → breaks_off g ≡ true → i ≡ classes.None → p ≡ false
    → (let v : Bool = elim (break_by_pair true l g) as (λ _. Bool) [ None ↦ (x && is_consonant i) || (y && p) || (z && is_regional g) | Some breaks ↦ not breaks ] in v) ≡ false
no_join l g i p x y z e f n q =
    ap (λ (l : GraphemeClusterBreak). (let v : Bool = elim (break_by_pair true l g) as (λ _. Bool) [ None ↦ (x && is_consonant i) || (y && p) || (z && is_regional g) | Some breaks ↦ not breaks ] in v)) e
    ∙ ap (λ (i : IndicConjunctBreak). (let v : Bool = elim (break_by_pair true breaks.Other g) as (λ _. Bool) [ None ↦ (x && is_consonant i) || (y && p) || (z && is_regional g) | Some breaks ↦ not breaks ] in v)) n
    ∙ ap (λ (p : Bool). (let v : Bool = elim (break_by_pair true breaks.Other g) as (λ _. Bool) [ None ↦ (x && false) || (y && p) || (z && is_regional g) | Some breaks ↦ not breaks ] in v)) q
    ∙ by_class g f
  where
    flags : (x y z : Bool) → ((x && false) || (y && false) || (z && false)) ≡ false
    flags true true true = refl
    flags true true false = refl
    flags true false true = refl
    flags true false false = refl
    flags false true true = refl
    flags false true false = refl
    flags false false true = refl
    flags false false false = refl

    by_class : (g : GraphemeClusterBreak) → breaks_off g ≡ true
        → (let v : Bool = elim (break_by_pair true breaks.Other g) as (λ _. Bool) [ None ↦ (x && false) || (y && false) || (z && is_regional g) | Some breaks ↦ not breaks ] in v) ≡ false
    by_class breaks.Other f = flags x y z
    by_class breaks.Control f = refl
    by_class breaks.Cr f = refl
    by_class breaks.Lf f = refl
    by_class _ f = cc

pub other_joins : (cluster : Cluster) (b : ℕ) → b < 128 → is_other cluster.last ≡ true → joins cluster b ≡ false
other_joins cluster b low h =
    no_join cluster.last (grapheme_cluster_break b) (indic_conjunct_break b) (is_extended_pictographic b) cluster.linker cluster.joiner cluster.half_flag
    (other_is cluster.last h) (both _ _ (break_is b low)).0 (none_is _ (conjunct_is b low)) (false_from _ (pictograph_is b low))

abbrev of : GraphemeClusterBreak → IndicConjunctBreak → Bool → Cluster
of g i p = record { last = g; linker = is_linker i; pictograph = p; joiner = false; half_flag = is_regional g }

simple_low : (c : ℕ) → is_simple c ≡ true → c < 128
simple_low c h = grind (arith, nat_tests)

implied : (u v : Bool) → (not u || v) ≡ true → u ≡ true → v ≡ true
implied true v e h = e
implied false v e h = cc

-- the cluster of a character with no property
pub simple_cluster : (c : ℕ) → is_simple c ≡ true
    → cluster_of c ≡ (let d : Cluster = record { last = breaks.Other; linker = false; pictograph = false; joiner = false; half_flag = false } in d)
simple_cluster c h =
    let low = simple_low c h in
    let class = other_is _ (implied (is_simple c) _ (both _ _ (break_is c low)).1 h) in
    ap (λ (g : GraphemeClusterBreak). of g (indic_conjunct_break c) (is_extended_pictographic c)) class
    ∙ ap (λ (i : IndicConjunctBreak). of breaks.Other i (is_extended_pictographic c)) (none_is _ (conjunct_is c low))
    ∙ ap (λ (p : Bool). of breaks.Other classes.None p) (false_from _ (pictograph_is c low))
