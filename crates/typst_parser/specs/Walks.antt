-- Walks over the events of the last tree, from the last one back.
use Rattle.std.specs.Prelude.{ℕ, List, ◌∷◌, ◌++◌, Option, reverse}
use Rattle.typst_parser.specs.Retag.{retagged_back}
use Rattle.typst_parser.specs.declared.event.Event.{Event}
use Rattle.typst_parser.specs.declared.retag.Walk.{Walk as CodeWalk}
use Rattle.typst_grammar.specs.declared.maps.Map.{Map}

-- The events that aren't passed yet, the maps for their last trees, what came of the events that were passed, and how many
-- bytes come before those. In each list the last one is first, but what came of events stands in its order.
pub record Walk : Type 0 where
  pub events : List Event
  pub maps : List (Option Map)
  pub done : List Event
  pub end : ℕ

-- how contracts see the code's walk
abbrev pub walk_of : CodeWalk → Walk
walk_of w = record { events = reverse w.events.items; maps = reverse w.maps.items; done = w.done.items; end = w.end }

-- a walk after more came of an event
abbrev pub done_more : List Event → Walk → Walk
done_more es w = record w { done = w.done ++ es }

-- the events that a walk ends with
abbrev pub walked : Walk → List Event
walked w = w.done ++ retagged_back 0 w.maps w.end w.events

-- the same, if an event and its map were taken from it
abbrev pub walked_by : Option Map → Event → Walk → List Event
walked_by map e w = w.done ++ retagged_back 0 (map ∷ w.maps) w.end (e ∷ w.events)
