-- The trees that events grow: their text, their number and their levels.
use Rattle.std.proofs.Common.{◌≡◌, ℕ, zero, suc, ◌+◌, ◌-◌, ◌≤◌, ◌<◌, List, [], ◌∷◌, ◌++◌, length, take, drop, get_or, Option, Some, None, refl, sym, ap, subst, ◌∙◌, add-one, length-append, arith}
use Rattle.std.specs.Str.{IsCharBoundary}
use Rattle.std.proofs.lemmas.List.{append-nil, drop-drop, length-take, length-drop, take-append-drop}
use Rattle.std.proofs.Math.Seq.{drop-cons, take-add}
use Rattle.typst_node.specs.Count.{SumsFit}
use Rattle.typst_node.specs.Text.{text_of_all}
use Rattle.typst_node.specs.Tree.{Tree, Forest, none, tree, forest, inner_tree, leaf_tree}
use Rattle.typst_node.specs.Depth.{AreForestWithin, AreWithin}
use Rattle.typst_parser.specs.Events.{but_last, CanBeCutFrom, bytes, bytes_of, greatest, last_some, levels, levels_after, levels_onto, trees, trees_after, trees_onto}
use Rattle.typst_parser.specs.Growth.{faulty_tree, grown, grown_onto, node_tree, proper, with_event}
use Rattle.typst_parser.specs.declared.event.Event.{Event}
use Rattle.typst_parser.specs.Warnings.{warned_by, warning_for}
use Rattle.typst_parser.specs.declared.event.Event.TheVariants.{Leaf, Error, Node}
use Rattle.typst_parser.specs.declared.warning.Warning.{Warning}
use Rattle.typst_parser.proofs.Boundaries.{boundary_in_rest}
use Rattle.typst_parser.proofs.Texts.{Gains, gains_fits, gains_gains, node_gains, push_gains}

pub split_last : {X : Type 0} (n : ℕ) (xs : List X) → but_last n xs ++ last_some n xs ≡ xs
split_last n xs = take-append-drop (length xs - n) xs

-- an event adds its piece of the text
event_gains : (e : Event) (text : List ℕ) (ts : List Tree) → Gains (take (bytes_of e) text) ts (with_event e (take (bytes_of e) text) ts)
event_gains (Leaf kind len) text ts = push_gains ts (leaf_tree (proper kind) (take len text)) (take len text) (append-nil (take len text))
event_gains (Error fault len) text ts = push_gains ts (faulty_tree fault (take len text)) (take len text) (append-nil (take len text))
event_gains (Node kind children) text ts = subst (λ us. Gains [] us (but_last children ts ++ node_tree (proper kind) (last_some children ts) ∷ [])) (split_last children ts) (node_gains (proper kind) (but_last children ts) (last_some children ts))

grown_gains : (ts : List Tree) (text : List ℕ) (es : List Event) → Gains (take (bytes es) text) ts (grown_onto ts text es)
grown_gains ts text [] = record { text = sym (append-nil (text_of_all ts)); nodes = omega arith }
grown_gains ts text (e ∷ es) =
    let us : List Tree = with_event e (take (bytes_of e) text) ts in
    let piece : List ℕ = take (bytes_of e) text in
    subst (λ s. Gains s ts (grown_onto us (drop (bytes_of e) text) es)) (sym (take-add (bytes_of e) (bytes es) text))
    (gains_gains piece (take (bytes es) (drop (bytes_of e) text)) ts us (grown_onto us (drop (bytes_of e) text) es) (event_gains e text ts) (grown_gains us (drop (bytes_of e) text) es))

-- the text of the trees is that of the events
pub grown_text : (text : List ℕ) (es : List Event) → text_of_all (grown text es) ≡ take (bytes es) text
grown_text text es = (grown_gains [] text es).text

-- the trees so far fit, if all do
pub onto_fits : (ts : List Tree) (text : List ℕ) (es : List Event) → SumsFit (grown_onto ts text es) → SumsFit ts
onto_fits ts text es = gains_fits (take (bytes es) text) ts (grown_onto ts text es) (grown_gains ts text es)

-- the number of trees
event_length : (e : Event) (piece : List ℕ) (ts : List Tree) → length (with_event e piece ts) ≡ trees_after e (length ts)
event_length (Leaf kind len) piece ts = omega (arith, length-append ts (leaf_tree (proper kind) piece ∷ []))
event_length (Error fault len) piece ts = omega (arith, length-append ts (faulty_tree fault piece ∷ []))
event_length (Node kind children) piece ts =
    omega (arith, length-append (but_last children ts) (node_tree (proper kind) (last_some children ts) ∷ []), length-take (length ts - children) ts)

onto_length : (ts : List Tree) (text : List ℕ) (es : List Event) → length (grown_onto ts text es) ≡ trees_onto (length ts) es
onto_length ts text [] = refl
onto_length ts text (e ∷ es) =
    onto_length (with_event e (take (bytes_of e) text) ts) (drop (bytes_of e) text) es
    ∙ ap (λ n. trees_onto n es) (event_length e (take (bytes_of e) text) ts)

pub grown_length : (text : List ℕ) (es : List Event) → length (grown text es) ≡ trees es
grown_length text es = onto_length [] text es

-- the levels of the trees
weaken : (n m : ℕ) (f : Forest) → n ≤ m → AreForestWithin n f → AreForestWithin m f
weaken n m none h w = tt
weaken zero m (tree l c r) h w = absurd w
weaken (suc n) zero (tree l c r) h w = absurd (omega arith)
weaken (suc n) (suc m) (tree l c r) h w = (weaken n m c (omega arith) w.0, weaken (suc n) (suc m) r h w.1)

join : (n : ℕ) (ts us : List Tree) → AreWithin n ts → AreWithin n us → AreWithin n (ts ++ us)
join n [] us p q = q
join zero (t ∷ ts) us p q = absurd p
join (suc n) (t ∷ ts) us p q = (p.0, join (suc n) ts us p.1 q)

-- each tree has at most so many levels as the number at its place
abbrev EachWithin : List ℕ → List Tree → Type 0
EachWithin [] [] = Unit {0}
EachWithin [] (t ∷ ts) = ⊥
EachWithin (n ∷ ns) [] = ⊥
EachWithin (n ∷ ns) (t ∷ ts) = AreWithin n (t ∷ []) × EachWithin ns ts

each_length : (ns : List ℕ) (ts : List Tree) → EachWithin ns ts → length ns ≡ length ts
each_length [] [] w = refl
each_length [] (t ∷ ts) w = absurd w
each_length (n ∷ ns) [] w = absurd w
each_length (n ∷ ns) (t ∷ ts) w = ap suc (each_length ns ts w.1)

each_push : (ns : List ℕ) (ts : List Tree) (n : ℕ) (t : Tree) → EachWithin ns ts → AreWithin n (t ∷ []) → EachWithin (ns ++ n ∷ []) (ts ++ t ∷ [])
each_push [] [] n t w own = (own, tt)
each_push [] (u ∷ ts) n t w own = absurd w
each_push (m ∷ ns) [] n t w own = absurd w
each_push (m ∷ ns) (u ∷ ts) n t w own = (w.0, each_push ns ts n t w.1 own)

each_take : (k : ℕ) (ns : List ℕ) (ts : List Tree) → EachWithin ns ts → EachWithin (take k ns) (take k ts)
each_take zero ns ts w = tt
each_take (suc k) [] [] w = tt
each_take (suc k) [] (t ∷ ts) w = absurd w
each_take (suc k) (n ∷ ns) [] w = absurd w
each_take (suc k) (n ∷ ns) (t ∷ ts) w = (w.0, each_take k ns ts w.1)

each_drop : (k : ℕ) (ns : List ℕ) (ts : List Tree) → EachWithin ns ts → EachWithin (drop k ns) (drop k ts)
each_drop zero ns ts w = w
each_drop (suc k) [] [] w = tt
each_drop (suc k) [] (t ∷ ts) w = absurd w
each_drop (suc k) (n ∷ ns) [] w = absurd w
each_drop (suc k) (n ∷ ns) (t ∷ ts) w = each_drop k ns ts w.1

each_all : (m : ℕ) (ns : List ℕ) (ts : List Tree) → greatest ns ≤ m → EachWithin ns ts → AreWithin m ts
each_all m [] [] low w = tt
each_all m [] (t ∷ ts) low w = absurd w
each_all m (n ∷ ns) [] low w = absurd w
each_all m (n ∷ ns) (t ∷ ts) low w = join m (t ∷ []) ts (weaken n m (forest (t ∷ [])) (omega arith) w.0) (each_all m ns ts (omega arith) w.1)

-- a warning is no level
warned_within : (n : ℕ) (w : Option Warning) (t : Tree) → AreWithin n (t ∷ []) → AreWithin n (warned_by w t ∷ [])
warned_within n None t h = h
warned_within zero (Some w) t h = absurd h
warned_within (suc n) (Some w) t h = h

event_each : (e : Event) (piece : List ℕ) (ns : List ℕ) (ts : List Tree) → EachWithin ns ts → EachWithin (levels_after e ns) (with_event e piece ts)
event_each (Leaf kind len) piece ns ts w = each_push ns ts 1 (leaf_tree (proper kind) piece) w (tt, tt)
event_each (Error fault len) piece ns ts w = each_push ns ts 1 (faulty_tree fault piece) w (tt, tt)
event_each (Node kind children) piece ns ts w =
    let k : ℕ = length ts - children in
    let same : length ns - children ≡ k = ap (λ n. n - children) (each_length ns ts w) in
    subst (λ j. EachWithin (take j ns ++ suc (greatest (drop j ns)) ∷ []) (but_last children ts ++ node_tree (proper kind) (last_some children ts) ∷ [])) (sym same)
    (each_push (take k ns) (take k ts) (suc (greatest (drop k ns))) (node_tree (proper kind) (drop k ts)) (each_take k ns ts w)
    (warned_within (suc (greatest (drop k ns))) (warning_for (proper kind) (drop k ts)) (inner_tree (proper kind) (drop k ts))
    (each_all (greatest (drop k ns)) (drop k ns) (drop k ts) (omega arith) (each_drop k ns ts w), tt)))

onto_each : (ns : List ℕ) (ts : List Tree) (text : List ℕ) (es : List Event) → EachWithin ns ts → EachWithin (levels_onto ns es) (grown_onto ts text es)
onto_each ns ts text [] w = w
onto_each ns ts text (e ∷ es) w =
    onto_each (levels_after e ns) (with_event e (take (bytes_of e) text) ts) (drop (bytes_of e) text) es (event_each e (take (bytes_of e) text) ns ts w)

-- the trees are within so many levels as the greatest of the events
pub grown_within : (most : ℕ) (text : List ℕ) (es : List Event) → greatest (levels es) ≤ most → AreWithin most (grown text es)
grown_within most text es low = each_all most (levels es) (grown text es) low (onto_each [] [] text es tt)

-- What the loop over events keeps. The event at the index has a piece of so many bytes of the rest.
module _ (all : List Event) (i : ℕ) (d : Event) (text rest piece more : List ℕ) (len : ℕ) (ts whole : List Tree) (within : i < length all)
    (len_is : len ≡ bytes_of (get_or all i d)) (piece_is : piece ≡ take len rest) (more_is : more ≡ drop len rest)
    (so_far : grown_onto ts rest (drop i all) ≡ whole) where
  here : with_event (get_or all i d) piece ts ≡ with_event (get_or all i d) (take (bytes_of (get_or all i d)) rest) ts
  here = ap (λ p. with_event (get_or all i d) p ts) (piece_is ∙ ap (λ n. take n rest) len_is)

  onwards : grown_onto (with_event (get_or all i d) (take (bytes_of (get_or all i d)) rest) ts) (drop (bytes_of (get_or all i d)) rest) (drop (suc i) all) ≡ whole
  onwards = sym (ap (grown_onto ts rest) (drop-cons all i d within)) ∙ so_far

  pub grow_fits : SumsFit whole → SumsFit (with_event (get_or all i d) piece ts)
  grow_fits fits =
      subst SumsFit (sym here)
      (onto_fits (with_event (get_or all i d) (take (bytes_of (get_or all i d)) rest) ts) (drop (bytes_of (get_or all i d)) rest) (drop (suc i) all) (subst SumsFit (sym onwards) fits))

  pub grow_next : (us : List Tree) → us ≡ with_event (get_or all i d) piece ts → grown_onto us more (drop (i + 1) all) ≡ whole
  grow_next us us_is =
      (λ j. grown_onto ((us_is ∙ here) j) ((more_is ∙ ap (λ n. drop n rest) len_is) j) (drop (add-one i j) all)) ∙ onwards

  module _ (place : drop (length text - length rest) text ≡ rest) (cut : CanBeCutFrom (length text - length rest) text (drop i all)) where
    split : CanBeCutFrom (length text - length rest) text (get_or all i d ∷ drop (suc i) all)
    split = subst (CanBeCutFrom (length text - length rest) text) (drop-cons all i d within) cut

    pub piece_boundary : IsCharBoundary rest len
    piece_boundary =
        subst (λ s. IsCharBoundary s len) place
        (boundary_in_rest text (length text - length rest) len (subst (λ n. IsCharBoundary text (length text - length rest + n)) (sym len_is) split.0))

    further : length text - length more ≡ length text - length rest + len
    further = omega (arith, piece_boundary.0, ap length more_is, length-drop len rest, ap length place, length-drop (length text - length rest) text)

    pub place_next : drop (length text - length more) text ≡ more
    place_next = ap (λ n. drop n text) further ∙ sym (drop-drop len (length text - length rest) text) ∙ ap (drop len) place ∙ sym more_is

    pub cut_next : CanBeCutFrom (length text - length more) text (drop (i + 1) all)
    cut_next =
        subst (λ n. CanBeCutFrom n text (drop (i + 1) all)) (sym (further ∙ ap (λ n. length text - length rest + n) len_is))
        (subst (λ k. CanBeCutFrom (length text - length rest + bytes_of (get_or all i d)) text (drop k all)) (sym (add-one i)) split.1)
