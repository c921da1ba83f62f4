-- The trees that events grow are detached.
use Rattle.std.proofs.Common.{◌≡◌, ◌-◌, ℕ, zero, suc, List, [], ◌∷◌, ◌++◌, length, map, take, drop, Option, Some, None, refl, sym, ap, ◌∙◌}
use Rattle.std.specs.List.{AllByRecursion}
use Rattle.typst_base.specs.declared.kind.SyntaxKind.{SyntaxKind}
use Rattle.typst_node.specs.Plain.{plain}
use Rattle.typst_node.specs.Tree.{Tree, forest, inner_tree}
use Rattle.typst_node.proofs.Plain.{forest_plain}
use Rattle.typst_parser.specs.Events.{bytes_of}
use Rattle.typst_parser.specs.FirstBlock.{at_end, first_block}
use Rattle.typst_parser.specs.Growth.{grown_onto, proper, with_event}
use Rattle.typst_parser.specs.Warnings.{warned_by, warning_for}
use Rattle.typst_parser.specs.declared.warning.Warning.{Warning}
use Rattle.typst_parser.specs.Rows.{Table}
use Rattle.typst_parser.specs.declared.event.Event.{Event}
use Rattle.typst_parser.specs.declared.event.Event.TheVariants.{Leaf, Error, Node}

abbrev ArePlain : List Tree → Type 0
ArePlain ts = AllByRecursion (λ (t : Tree). plain t ≡ t) ts

join : (ts us : List Tree) → ArePlain ts → ArePlain us → ArePlain (ts ++ us)
join [] us p q = q
join (t ∷ ts) us p q = (p.0, join ts us p.1 q)

front : (n : ℕ) (ts : List Tree) → ArePlain ts → ArePlain (take n ts)
front zero ts p = tt
front (suc n) [] p = tt
front (suc n) (t ∷ ts) p = (p.0, front n ts p.1)

behind : (n : ℕ) (ts : List Tree) → ArePlain ts → ArePlain (drop n ts)
behind zero ts p = p
behind (suc n) [] p = tt
behind (suc n) (t ∷ ts) p = behind n ts p.1

all_plain : (ts : List Tree) → ArePlain ts → map plain ts ≡ ts
all_plain [] g = refl
all_plain (t ∷ ts) g = λ i. g.0 i ∷ all_plain ts g.1 i

plain_inner : (k : SyntaxKind) (ts : List Tree) → ArePlain ts → plain (inner_tree k ts) ≡ inner_tree k ts
plain_inner k ts g = λ i. record { label = (inner_tree k ts).label; children = (sym (forest_plain ts) ∙ ap forest (all_plain ts g)) i }

plain_warned : (w : Option Warning) (t : Tree) → plain t ≡ t → plain (warned_by w t) ≡ warned_by w t
plain_warned None t is = is
plain_warned (Some w) t is = ap (warned_by (Some w)) is

event_plain : (e : Event) (piece : List ℕ) (ts : List Tree) → ArePlain ts → ArePlain (with_event e piece ts)
event_plain (Leaf kind len) piece ts p = join ts _ p (refl, tt)
event_plain (Error fault len) piece ts p = join ts _ p (refl, tt)
event_plain (Node kind children) piece ts p =
    join (take (length ts - children) ts) _ (front (length ts - children) ts p) (
      plain_warned (warning_for (proper kind) (drop (length ts - children) ts)) (inner_tree (proper kind) (drop (length ts - children) ts))
          (plain_inner (proper kind) (drop (length ts - children) ts) (behind (length ts - children) ts p)),
      tt,
    )

grown_plain : (ts : List Tree) (text : List ℕ) (es : List Event) → ArePlain ts → ArePlain (grown_onto ts text es)
grown_plain ts text [] p = p
grown_plain ts text (e ∷ es) p =
    grown_plain (with_event e (take (bytes_of e) text) ts) (drop (bytes_of e) text) es (event_plain e (take (bytes_of e) text) ts p)

pub block_plain : (t : Table) (text : List ℕ) → map plain (first_block t text).trees ≡ (first_block t text).trees
block_plain t text = all_plain (first_block t text).trees (grown_plain [] text (at_end t text).events tt)
