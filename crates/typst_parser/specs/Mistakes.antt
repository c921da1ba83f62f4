-- Trees that become errors.
use Rattle.std.specs.Prelude.{ℕ, Bool, true, false, List, [], ◌∷◌, ◌++◌, drop, reverse, if◌then◌else◌}
use Rattle.typst_parser.specs.Retag.{mistake_back}
use Rattle.typst_parser.specs.Spans.{children_of, span}
use Rattle.typst_parser.specs.declared.event.Event.{Event}
use Rattle.typst_parser.specs.declared.event.Event.TheVariants.{Leaf, Error, Node}
use Rattle.typst_grammar.specs.declared.expectation.Expectation.{Expectation}

-- there is a last event, and it isn't an error
abbrev pub can_be_mistaken : List Event → Bool
can_be_mistaken [] = false
can_be_mistaken (Leaf kind len ∷ back) = true
can_be_mistaken (Error fault len ∷ back) = false
can_be_mistaken (Node kind children ∷ back) = true

-- the events, with an error in place of the last tree, where so many bytes come up to its end
abbrev pub with_mistake : Expectation → ℕ → List Event → List Event
with_mistake what end [] = []
with_mistake what end (e ∷ back) = mistake_back what end e back ++ drop (span (children_of e) back) back

-- the events after the last tree has become an error, unless it is one
abbrev pub mistaken : Expectation → ℕ → List Event → List Event
mistaken what end es = if can_be_mistaken (reverse es) then reverse (with_mistake what end (reverse es)) else es
