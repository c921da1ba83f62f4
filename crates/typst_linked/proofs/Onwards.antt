-- The places from one on, one after the other.
use Rattle.std.proofs.Common.{◌≡◌, ℕ, suc, zero, ◌+◌, ◌<◌, ◌≤◌, List, [], ◌∷◌, ◌++◌, length, map, take, drop, get_or, Option, None, Some, refl, sym, ◌∙◌, ap, arith, slice_get, append_assoc, append-nil, drop-cons, length-append}
use Rattle.std.specs.Prelude.{Result, Ok, Err, IfOk, MatchOption}
use Rattle.std.specs.declared.alloc.AllocError.{AllocError}
use Rattle.std.proofs.Math.Seq.{take-append_seam}
use Rattle.std.proofs.lemmas.Simd.{map-map}
use Rattle.std.proofs.lemmas.List.{map-append, length-map}
use Rattle.std.proofs.lemmas.Option.{slice_get_within, slice_get-get_or, get_or_from_slice_get}
use Rattle.typst_node.specs.Tree.{Forest, none, tree, Tree, trees, forest}
use Rattle.typst_node.specs.Preorder.{paths_from, paths, at}
use Rattle.typst_node.specs.Paths.{no_tree}
use Rattle.typst_node.specs.Count.{count}
use Rattle.typst_node.proofs.PathsInPreorder.{length-paths}
use Rattle.typst_node.proofs.Trees.{forest-trees}
use Rattle.typst_linked.specs.Place.{Place, subtree, below, child_place}
use Rattle.typst_linked.specs.Preorder.{listed_of, places_below}
use Rattle.typst_linked.specs.Onwards.{paths_behind, places_behind, places_from}
use Rattle.typst_node.proofs.PathSteps.{if_some_value, at-push}

map_same : {A B : Type 0} (f g : A → B) → ((x : A) → f x ≡ g x) → (xs : List A) → map f xs ≡ map g xs
map_same f g same [] = refl
map_same f g same (x ∷ xs) = λ i. same x i ∷ map_same f g same xs i

map_id : {A : Type 0} (xs : List A) → map (λ x. x) xs ≡ xs
map_id [] = refl
map_id (x ∷ xs) = ap (λ ys. x ∷ ys) (map_id xs)

drop_all : {A : Type 0} (n : ℕ) (xs : List A) → length xs ≤ n → drop n xs ≡ []
drop_all zero [] h = refl
drop_all zero (x ∷ xs) h = absurd (omega arith)
drop_all (suc n) [] h = refl
drop_all (suc n) (x ∷ xs) h = drop_all n xs (omega arith)

-- the paths of a node's children after the one with an index
abbrev later : ℕ → Tree → List (List ℕ)
later i m = paths_from (i + 1) (forest (drop (i + 1) (trees m.children)))

nothing_behind : (o : Option Tree) → listed_of (paths_behind []) o ≡ []
nothing_behind None = refl
nothing_behind (Some t) = refl

-- after a child stand its later siblings, and then what is after its parent
behind-push : (p : List ℕ) (i : ℕ) (t m : Tree) → at p t ≡ Some m → paths_behind (p ++ i ∷ []) t ≡ map (λ q. p ++ q) (later i m) ++ paths_behind p t
behind-push [] i t m h =
    let h : Some t ≡ Some m = h in
    let same : t ≡ m = cc in
    ap (λ (ps : List (List ℕ)). map (λ q. i ∷ q) ps ++ later i t) (nothing_behind (slice_get (trees t.children) i))
    ∙ (ap (later i) same ∙ (sym (map_id (later i m)) ∙ sym (append-nil (map (λ q. q) (later i m)))))
behind-push (j ∷ p) i t m h =
    let x = if_some_value (at p) (slice_get (trees t.children) j) m h in
    ap (λ o. map (λ q. j ∷ q) (listed_of (paths_behind (p ++ i ∷ [])) o) ++ later j t) x.1
    ∙ (ap (λ ps. map (λ q. j ∷ q) ps ++ later j t) (behind-push p i x.0 m x.2)
    ∙ (ap (λ ps. ps ++ later j t) (map-append (λ q. j ∷ q) (map (λ q. p ++ q) (later i m)) (paths_behind p x.0))
    ∙ (append_assoc (map (λ q. j ∷ q) (map (λ q. p ++ q) (later i m))) (map (λ q. j ∷ q) (paths_behind p x.0)) (later j t)
    ∙ (ap (λ ps. ps ++ (map (λ q. j ∷ q) (paths_behind p x.0) ++ later j t)) (map-map (λ q. j ∷ q) (λ q. p ++ q) (later i m))
    ∙ ap (λ o. map (λ q. j ∷ (p ++ q)) (later i m) ++ (map (λ q. j ∷ q) (listed_of (paths_behind p) o) ++ later j t)) (sym x.1)))))

-- the same of places
behind_child : (parent : Place) (m : Tree) (i : ℕ) → subtree parent ≡ Some m → places_behind (child_place parent i) ≡ map (below parent) (later i m) ++ places_behind parent
behind_child parent m i h =
    let there : List ℕ → Place = λ path. record { root = parent.root; path = path } in
    ap (map there) (behind-push parent.path i parent.root m h)
    ∙ (map-append there (map (λ q. parent.path ++ q) (later i m)) (paths_behind parent.path parent.root)
    ∙ ap (λ ps. ps ++ places_behind parent) (map-map there (λ q. parent.path ++ q) (later i m)))

-- a list of a child's paths and those of its later siblings is followed by what is after the parent
from_child : (parent : Place) (m e : Tree) (i : ℕ) (here : List (List ℕ)) → subtree parent ≡ Some m → slice_get (trees m.children) i ≡ Some e → here ≡ map (λ p. i ∷ p) (paths e) ++ later i m →
    map (below parent) here ++ places_behind parent ≡ places_from (child_place parent i)
from_child parent m e i here hm he split =
    let own : List (List ℕ) = map (λ p. i ∷ p) (paths e) in
    let child = child_place parent i in
    let same : (p : List ℕ) → below parent (i ∷ p) ≡ below child p = λ p k. record { root = parent.root; path = sym (append_assoc parent.path (i ∷ []) p) k } in
    let first : map (below parent) own ≡ places_below child =
    map-map (below parent) (λ p. i ∷ p) (paths e) ∙ (map_same (λ p. below parent (i ∷ p)) (below child) same (paths e)
    ∙ ap (listed_of (λ t. map (below child) (paths t))) (sym (at-push parent.path i parent.root m e hm he))) in
    ap (λ ps. map (below parent) ps ++ places_behind parent) split
    ∙ (ap (λ ps. ps ++ places_behind parent) (map-append (below parent) own (later i m))
    ∙ (append_assoc (map (below parent) own) (map (below parent) (later i m)) (places_behind parent)
    ∙ (λ k. first k ++ sym (behind_child parent m i hm) k)))

later-more : (m e : Tree) (i : ℕ) → slice_get (trees m.children) (i + 1) ≡ Some e → later i m ≡ map (λ p. (i + 1) ∷ p) (paths e) ++ later (i + 1) m
later-more m e i s =
    let ts = trees m.children in
    let parts : drop (i + 1) ts ≡ e ∷ drop (i + 1 + 1) ts =
    drop-cons ts (i + 1) no_tree (slice_get_within ts (i + 1) e s)
    ∙ (λ k. get_or_from_slice_get ts (i + 1) e no_tree s k ∷ drop ((let more : suc (i + 1) ≡ i + 1 + 1 = omega arith in more) k) ts) in
    ap (λ us. paths_from (i + 1) (forest us)) parts

first-more : (f : Forest) (c : Tree) → slice_get (trees f) 0 ≡ Some c → paths_from 0 f ≡ map (λ p. 0 ∷ p) (paths c) ++ paths_from (0 + 1) (forest (drop (0 + 1) (trees f)))
first-more none c s = absurd (let s : None ≡ Some c = s in cc)
first-more (tree l d r) c s =
    let s : Some (record { label = l; children = d }) ≡ Some c = s in
    let same : record { label = l; children = d } ≡ c = cc in
    λ k. map (λ p. 0 ∷ p) (paths (same k)) ++ paths_from 1 (sym (forest-trees r) k)

-- a place, and then all after it
head_first : (place : Place) (m : Tree) → subtree place ≡ Some m → places_from place ≡ place ∷ (map (below place) (paths_from 0 m.children) ++ places_behind place)
head_first place m h =
    ap (λ o. listed_of (λ t. map (below place) (paths t)) o ++ places_behind place) h
    ∙ (λ k. record { root = place.root; path = append-nil place.path k } ∷ (map (below place) (paths_from 0 m.children) ++ places_behind place))

-- after a node with children comes its first child
pub onwards_child : (place next : Place) (m : Tree) (kids : List Tree) → subtree place ≡ Some m → kids ≡ trees m.children → 0 < length kids → next ≡ child_place place 0 → places_from place ≡ place ∷ places_from next
onwards_child place next m kids h e some is =
    let s : slice_get (trees m.children) 0 ≡ Some (get_or (trees m.children) 0 no_tree) = slice_get-get_or (trees m.children) 0 no_tree (omega (arith, ap length e)) in
    head_first place m h
    ∙ ap (λ ps. place ∷ ps) (from_child place m (get_or (trees m.children) 0 no_tree) 0 (paths_from 0 m.children) h s (first-more m.children (get_or (trees m.children) 0 no_tree) s) ∙ ap places_from (sym is))

no_item : {A : Type 0} (xs : List A) → length xs ≡ 0 → xs ≡ []
no_item [] h = refl
no_item (x ∷ xs) h = absurd (omega arith)

-- after a node without children comes what is after its subtree
pub onwards_leaf : (place : Place) (m : Tree) (kids : List Tree) → subtree place ≡ Some m → kids ≡ trees m.children → length kids ≡ 0 → places_from place ≡ place ∷ places_behind place
onwards_leaf place m kids h e empty =
    let bare : m.children ≡ none = sym (forest-trees m.children) ∙ ap forest (sym e ∙ no_item kids empty) in
    head_first place m h ∙ ap (λ f. place ∷ (map (below place) (paths_from 0 f) ++ places_behind place)) bare

-- after a child's subtree comes the next child
pub beyond_sibling : (place parent next : Place) (m : Tree) (kids : List Tree) (i : ℕ) → subtree parent ≡ Some m → kids ≡ trees m.children → place ≡ child_place parent i → i + 1 < length kids → next ≡ child_place parent (i + 1) → places_behind place ≡ places_from next
beyond_sibling place parent next m kids i h e here within is =
    let s : slice_get (trees m.children) (i + 1) ≡ Some (get_or (trees m.children) (i + 1) no_tree) = slice_get-get_or (trees m.children) (i + 1) no_tree (omega (arith, ap length e)) in
    ap places_behind here ∙ (behind_child parent m i h
    ∙ (from_child parent m (get_or (trees m.children) (i + 1) no_tree) (i + 1) (later i m) h s (later-more m (get_or (trees m.children) (i + 1) no_tree) i s) ∙ ap places_from (sym is)))

-- and after the last one what is after the parent's subtree
pub beyond_parent : (place parent : Place) (m : Tree) (kids : List Tree) (i : ℕ) → subtree parent ≡ Some m → kids ≡ trees m.children → place ≡ child_place parent i → length kids ≤ i + 1 → places_behind place ≡ places_behind parent
beyond_parent place parent m kids i h e here past =
    ap places_behind here ∙ (behind_child parent m i h
    ∙ ap (λ us. map (below parent) (paths_from (i + 1) (forest us)) ++ places_behind parent) (drop_all (i + 1) (trees m.children) (omega (arith, ap length e))))

-- what comes after a place without children is the first place after its subtree
pub behind_leaf : (place : Place) (result : Result (Option Place) AllocError) → places_from place ≡ place ∷ places_behind place →
    IfOk result (λ next. MatchOption next (places_behind place ≡ []) (λ p. places_behind place ≡ places_from p)) →
    IfOk result (λ next. MatchOption next (places_from place ≡ place ∷ []) (λ p. places_from place ≡ place ∷ places_from p))
behind_leaf place (Ok None) e h = e ∙ ap (λ ps. place ∷ ps) h
behind_leaf place (Ok (Some p)) e h = e ∙ ap (λ ps. place ∷ ps) h
behind_leaf place (Err error) e h = tt

-- as many places as nodes
length_below : (place : Place) (m : Tree) → subtree place ≡ Some m → length (places_below place) ≡ count m
length_below place m h =
    ap (λ o. length (listed_of (λ t. map (below place) (paths t)) o)) h ∙ (length-map (paths m) (below place) ∙ length-paths m)

-- as many places from one on as its subtree has nodes are those of the subtree
pub first_below : (place start : Place) (m : Tree) (n : ℕ) → start ≡ place → subtree place ≡ Some m → n ≡ count m → take n (places_from start) ≡ places_below place
first_below place start m n same h e =
    (λ k. take ((e ∙ sym (length_below place m h)) k) (places_from (same k))) ∙ take-append_seam (places_below place) (places_behind place)

pub enough_from : (place start : Place) (m : Tree) (n : ℕ) → start ≡ place → subtree place ≡ Some m → n ≡ count m → (x : Place) → Some start ≡ Some x → (1 ≤ n) × (n ≤ length (places_from x))
enough_from place start m n same h e x is =
    let here : x ≡ place = cc in
    let front = length-append (places_below place) (places_behind place) in
    let long : length (places_from x) ≡ length (places_from place) = ap (λ p. length (places_from p)) here in
    (omega arith, omega (arith, length_below place m h))
