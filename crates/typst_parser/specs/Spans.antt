-- Which events make the last trees. Lists of events that are named `back` have the last event first.
use Rattle.std.specs.Prelude.{ℕ, zero, suc, ◌+◌, ◌&&◌, ◌==◌, min, Bool, List, [], ◌∷◌, length, take, slice_index}
use Rattle.typst_parser.specs.Events.{bytes}
use Rattle.typst_parser.specs.declared.event.Event.{Event}
use Rattle.typst_parser.specs.declared.event.Event.TheVariants.{Leaf, Error, Node}

-- how many children the tree of an event has
abbrev pub children_of : Event → ℕ
children_of (Leaf kind len) = 0
children_of (Error fault len) = 0
children_of (Node kind children) = children

-- How many events make the last so many trees. There are no more trees than events.
abbrev pub span : ℕ → List Event → ℕ
span zero back = 0
span (suc n) [] = 0
span (suc n) (e ∷ back) = suc (span (min (n + children_of e) (length back)) back)

-- how many bytes the last so many trees have
abbrev pub width : ℕ → List Event → ℕ
width n back = bytes (take (span n back) back)

-- whether a text is this one byte
abbrev pub is_byte : ℕ → List ℕ → Bool
is_byte b text = (length text == 1) && (slice_index text 0 == b)
