-- What maps do with the last tree. Lists of events that are named `back` have the last event first.
use Rattle.std.specs.Prelude.{ℕ, zero, suc, ◌+◌, ◌-◌, ◌==◌, ◌&&◌, min, nat_le, nat_lt, Bool, true, List, [], ◌∷◌, ◌++◌, length, reverse, replicate, Option, Some, None, if◌then◌else◌}
use Rattle.typst_atoms.specs.ExprKinds.{is_expr_kind}
use Rattle.typst_base.specs.declared.kind.SyntaxKind.{SyntaxKind}
use Rattle.typst_parser.specs.Events.{bytes_of, kind_of}
use Rattle.typst_parser.specs.Spans.{children_of, span, width}
use Rattle.typst_parser.specs.declared.event.Event.{Event}
use Rattle.typst_parser.specs.declared.event.Event.TheVariants.{Leaf, Error, Node}
use Rattle.typst_parser.specs.declared.fault.Fault.TheVariants as faults
use Rattle.typst_grammar.specs.Maps.{changes}
use Rattle.typst_grammar.specs.declared.change.Change.{Change}
use Rattle.typst_grammar.specs.declared.change.Effect.{Effect}
use Rattle.typst_grammar.specs.declared.change.Effect.TheVariants as effects
use Rattle.typst_grammar.specs.declared.change.Test.{Test}
use Rattle.typst_grammar.specs.declared.change.Test.TheVariants as tests
use Rattle.typst_grammar.specs.declared.expectation.Expectation.{Expectation}
use Rattle.typst_grammar.specs.declared.maps.Map.{Map}

-- whether a test holds of the tree of an event
abbrev pub holds : Test → Event → Bool
holds tests.Always e = true
holds tests.Expr e = is_expr_kind (kind_of e)
holds tests.Alone e = children_of e == 1

-- the effect of the first change whose test holds
abbrev pub effect_in : List Change → Event → Option Effect
effect_in [] e = None
effect_in (c ∷ cs) e = if holds c.test e then Some c.effect else effect_in cs e

-- what a map does with the tree of an event
abbrev pub effect_of : Option Map → Event → Option Effect
effect_of None e = None
effect_of (Some map) e = effect_in (changes map (kind_of e)) e

-- the event with another kind
abbrev pub with_kind : Option SyntaxKind → Event → Event
with_kind None e = e
with_kind (Some kind) (Leaf k len) = Leaf kind len
with_kind (Some kind) (Error fault len) = Error fault len
with_kind (Some kind) (Node k children) = Node kind children

-- the maps for the children of a tree, the last child first
abbrev pub child_maps : Option Map → Option Map → ℕ → List (Option Map)
child_maps first others zero = []
child_maps first others (suc n) = replicate n others ++ first ∷ []

-- the map for the first child of a tree with an effect
abbrev pub first_below : Option Effect → Option Map
first_below (Some (effects.Become r)) = r.first
first_below _ = None

-- the map for the other children of a tree with an effect
abbrev pub others_below : Option Effect → Option Map
others_below (Some (effects.Become r)) = r.others
others_below _ = None

-- How many trees behind other events have maps of their own, as children of a tree with an effect. There are no more of them
-- than events.
abbrev pub count_below : Option Effect → Event → List Event → ℕ
count_below (Some (effects.Wrong what)) e back = 0
count_below _ e back = min (children_of e) (length back)

-- how many events go, since their tree becomes an error
abbrev pub gone : Option Effect → Event → List Event → ℕ
gone (Some (effects.Wrong what)) e back = span (children_of e) back
gone _ e back = 0

-- whether an event is a node whose children are among the events before it
abbrev pub is_parent : Event → List Event → Bool
is_parent e back = nat_lt 0 (children_of e) && nat_le (children_of e) (length back)

-- the event of a tree that becomes an error, where so many bytes come up to its end
abbrev pub mistake_back : Expectation → ℕ → Event → List Event → List Event
mistake_back what end e back = Error (faults.Mistake what (kind_of e)) (min (bytes_of e + width (children_of e) back) end) ∷ []

-- the events of a tree that gets an empty error as its last child, if it is a node with children
abbrev pub expected_back : Expectation → Event → List Event → List Event
expected_back what e back =
    if is_parent e back then Node (kind_of e) (children_of e + 1) ∷ Error (faults.Expected what) 0 ∷ [] else e ∷ []

-- what comes of an event, where so many bytes come up to its end
abbrev pub put_back : Option Effect → ℕ → Event → List Event → List Event
put_back None end e back = e ∷ []
put_back (Some (effects.Become r)) end e back = with_kind r.kind e ∷ []
put_back (Some (effects.Wrong what)) end e back = mistake_back what end e back
put_back (Some (effects.Expected what)) end e back = expected_back what e back

-- the maps for the children of an event with an effect
abbrev pub maps_below : Option Effect → Event → List Event → List (Option Map)
maps_below f e back = child_maps (first_below f) (others_below f) (count_below f e back)

-- The events after the changes, where so many bytes come up to the end of the last one. For each of the last trees there is a
-- map, or none. So many events before are passed over, since their tree became an error.
unfoldable pub retagged_back : ℕ → List (Option Map) → ℕ → List Event → List Event
retagged_back (suc n) maps end [] = []
retagged_back (suc n) maps end (e ∷ back) = retagged_back n maps (end - bytes_of e) back
retagged_back zero [] end back = back
retagged_back zero (m ∷ maps) end [] = []
retagged_back zero (m ∷ maps) end (e ∷ back) =
    let f : Option Effect = effect_of m e in
    put_back f end e back ++ retagged_back (gone f e back) (maps_below f e back ++ maps) (end - bytes_of e) back

-- the events after the change of the last tree by a map, where so many bytes come up to its end
abbrev pub retagged : Map → ℕ → List Event → List Event
retagged map end es = reverse (retagged_back 0 (Some map ∷ []) end (reverse es))
