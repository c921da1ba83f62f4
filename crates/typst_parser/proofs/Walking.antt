-- What a walk over the events of the last tree does, in the words of the definitions.
use Rattle.std.proofs.Common.{◌≡◌, ℕ, zero, suc, ◌+◌, ◌-◌, ◌<◌, ◌==◌, true, List, [], ◌∷◌, ◌++◌, length, take, drop, replicate, reverse, Option, Some, None, min, refl, sym, ap, subst, ◌∙◌, append_assoc, arith}
use Rattle.std.proofs.lemmas.Bool.{eqb-true}
use Rattle.std.proofs.lemmas.List.{reverse-append, reverse-reverse, take_all, take_more}
use Rattle.std.proofs.lemmas.Option.{get_or_from_slice_get, slice_get_within}
use Rattle.std.specs.List.{slice_get}
use Rattle.typst_parser.specs.Events.{bytes, bytes_of, kind_of}
use Rattle.typst_parser.specs.Spans.{children_of}
use Rattle.typst_grammar.specs.Maps.{changes}
use Rattle.typst_parser.specs.Retag.{child_maps, effect_in, effect_of, gone, maps_below, put_back, retagged, retagged_back}
use Rattle.typst_parser.specs.Walks.{Walk, walked, walked_by}
use Rattle.typst_parser.specs.declared.event.Event.{Event}
use Rattle.typst_grammar.specs.declared.change.Effect.{Effect}
use Rattle.typst_grammar.specs.declared.maps.Map.{Map}

no_events : (maps : List (Option Map)) (end : ℕ) → retagged_back 0 maps end [] ≡ []
unfolding retagged_back
no_events [] end = refl
no_events (m ∷ maps) end = refl

-- events that are passed over
skipped : (k : ℕ) (maps : List (Option Map)) (end : ℕ) (back : List Event)
    → retagged_back k maps end back ≡ retagged_back 0 maps (end - bytes (take k back)) (drop k back)
unfolding retagged_back
skipped zero maps end back = let all : end ≡ end - 0 = omega arith in ap (λ n. retagged_back 0 maps n back) all
skipped (suc n) maps end [] = sym (no_events maps (end - 0))
skipped (suc n) maps end (e ∷ back) =
    let both : end - bytes_of e - bytes (take n back) ≡ end - (bytes_of e + bytes (take n back)) = omega arith in
    skipped n maps (end - bytes_of e) back ∙ ap (λ m. retagged_back 0 maps m (drop n back)) both

one_step : (m : Option Map) (maps : List (Option Map)) (end : ℕ) (e : Event) (back : List Event) → (f : Option Effect) → f ≡ effect_of m e
    → retagged_back 0 (m ∷ maps) end (e ∷ back) ≡ put_back f end e back ++ retagged_back (gone f e back) (maps_below f e back ++ maps) (end - bytes_of e) back
unfolding retagged_back
one_step m maps end e back f is = λ i. put_back (sym is i) end e back ++ retagged_back (gone (sym is i) e back) (maps_below (sym is i) e back ++ maps) (end - bytes_of e) back

-- an event is passed
pub walk_step : (map : Option Map) (e : Event) (old new : Walk) (f : Option Effect) → f ≡ effect_of map e
    → new.done ≡ old.done ++ put_back f old.end e old.events → new.maps ≡ maps_below f e old.events ++ old.maps → new.events ≡ drop (gone f e old.events) old.events
    → new.end ≡ old.end - bytes_of e - bytes (take (gone f e old.events) old.events)
    → walked new ≡ walked_by map e old
walk_step map e old new f f_is done_is maps_is events_is end_is =
    let back : List Event = old.events in
    let k : ℕ = gone f e back in
    let maps : List (Option Map) = maps_below f e back ++ old.maps in
    let rest : retagged_back k maps (old.end - bytes_of e) back ≡ retagged_back 0 new.maps new.end new.events =
    skipped k maps (old.end - bytes_of e) back ∙ (λ i. retagged_back 0 (sym maps_is i) (sym end_is i) (sym events_is i)) in
    ap (λ es. es ++ retagged_back 0 new.maps new.end new.events) done_is
    ∙ append_assoc old.done (put_back f old.end e back) (retagged_back 0 new.maps new.end new.events)
    ∙ sym (ap (λ es. old.done ++ es) (one_step map old.maps old.end e back f f_is ∙ ap (λ es. put_back f old.end e back ++ es) rest))

-- the walk ends
pub walk_none : (w : Walk) → w.maps ≡ [] → walked w ≡ w.done ++ w.events
unfolding retagged_back
walk_none w none = ap (λ maps. w.done ++ retagged_back 0 maps w.end w.events) none

pub walk_all : (w : Walk) → w.events ≡ [] → walked w ≡ w.done ++ []
walk_all w none = ap (λ es. w.done ++ retagged_back 0 w.maps w.end es) none ∙ ap (λ es. w.done ++ es) (no_events w.maps w.end)

-- the events in the order of the text
pub in_order : (done back new : List Event) → done ++ reverse back ≡ new → back ++ reverse done ≡ reverse new
in_order done back new is = sym (ap (λ es. es ++ reverse done) (reverse-reverse back)) ∙ sym (reverse-append done (reverse back)) ∙ ap reverse is

-- no map changes anything
abbrev AllNone : List (Option Map) → Type 0
AllNone [] = Unit {0}
AllNone (None ∷ maps) = AllNone maps
AllNone (Some m ∷ maps) = ⊥

none_more : (n : ℕ) (maps : List (Option Map)) → AllNone maps → AllNone (replicate n None ++ maps)
none_more zero maps h = h
none_more (suc n) maps h = none_more n maps h

none_below : (n : ℕ) (maps : List (Option Map)) → AllNone maps → AllNone (child_maps None None n ++ maps)
none_below zero maps h = h
none_below (suc n) maps h = subst AllNone (sym (append_assoc (replicate n None) (None ∷ []) maps)) (none_more n (None ∷ maps) h)

unchanged : (maps : List (Option Map)) (end : ℕ) (back : List Event) → AllNone maps → retagged_back 0 maps end back ≡ back
unfolding retagged_back
unchanged [] end back h = refl
unchanged (Some m ∷ maps) end back h = absurd h
unchanged (None ∷ maps) end [] h = refl
unchanged (None ∷ maps) end (e ∷ back) h =
    ap (λ es. e ∷ es) (unchanged (child_maps None None (min (children_of e) (length back)) ++ maps) (end - bytes_of e) back (none_below (min (children_of e) (length back)) maps h))

idle_back : (map : Map) (end : ℕ) (e : Event) (back : List Event) → changes map (kind_of e) ≡ [] → retagged_back 0 (Some map ∷ []) end (e ∷ back) ≡ e ∷ back
idle_back map end e back none =
    one_step (Some map) [] end e back None (sym (ap (λ cs. effect_in cs e) none))
    ∙ ap (λ es. e ∷ es)
    (unchanged (child_maps None None (min (children_of e) (length back)) ++ []) (end - bytes_of e) back (none_below (min (children_of e) (length back)) [] tt))

-- a map that changes nothing of the last tree
pub idle : (map : Map) (end : ℕ) (front : List Event) (e : Event) → changes map (kind_of e) ≡ [] → retagged map end (front ++ e ∷ []) ≡ front ++ e ∷ []
idle map end front e none =
    ap (λ back. reverse (retagged_back 0 (Some map ∷ []) end back)) (reverse-append front (e ∷ []))
    ∙ ap reverse (idle_back map end e (reverse front) none)
    ∙ ap reverse (sym (reverse-append front (e ∷ [])))
    ∙ reverse-reverse (front ++ e ∷ [])

pub last_split : {X : Type 0} (es : List X) (e : X) → slice_get es (length es - 1) ≡ Some e → es ≡ take (length es - 1) es ++ e ∷ []
last_split es e is =
    let some : length es - 1 < length es = slice_get_within es (length es - 1) e is in
    let whole : length es ≡ length es - 1 + 1 = omega arith in
    sym (take_all (length es) es (omega arith)) ∙ ap (λ n. take n es) whole ∙ take_more es (length es - 1) e some
    ∙ ap (λ x. take (length es - 1) es ++ x ∷ []) (get_or_from_slice_get es (length es - 1) e e is)

pub idle_at : (map : Map) (es : List Event) (e : Event) → slice_get es (length es - 1) ≡ Some e → changes map (kind_of e) ≡ [] → (end : ℕ) → retagged map end es ≡ es
idle_at map es e is none end =
    let split = last_split es e is in
    ap (retagged map end) split ∙ idle map end (take (length es - 1) es) e none ∙ sym split

-- nothing comes of an empty list
pub popped_none : {X : Type 0} (n : ℕ) (old new : List X) → n ≡ 0 → new ≡ take (n - 1) old → old ≡ new ++ [] → (old ≡ []) × (new ≡ [])
popped_none n old new zero_is new_is old_is =
    let none : new ≡ [] = new_is ∙ ap (λ k. take (k - 1) old) zero_is in
    (old_is ∙ ap (λ xs. xs ++ []) none, none)

pub nothing : {X : Type 0} (xs : List X) → (length xs == 0) ≡ true → xs ≡ []
nothing [] e = refl
nothing (x ∷ xs) e = absurd (omega (arith, eqb-true (length (x ∷ xs)) 0 e))
