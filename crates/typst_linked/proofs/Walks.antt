-- Good leaves of a node, from those of its children.
use Rattle.std.proofs.Common.{◌≡◌, ℕ, suc, zero, ◌+◌, ◌≤◌, List, [], ◌∷◌, ◌++◌, length, map, take, drop, reverse, Option, None, Some, Bool, true, false, cond, inl, inr, refl, sym, ◌∙◌, ap, arith, append_assoc, append-nil, add-one, drop-cons}
use Rattle.std.specs.Prelude.{slice_get}
use Rattle.std.specs.List.{find}
use Rattle.std.specs.Option.{option_map, option_or}
use Rattle.std.proofs.lemmas.List.{take_more, reverse-append}
use Rattle.std.proofs.lemmas.List.Folds.{find-append}
use Rattle.std.proofs.lemmas.Option.{slice_get_within, get_or_from_slice_get}
use Rattle.typst_node.specs.Tree.{none, Tree, trees, forest}
use Rattle.typst_node.specs.Preorder.{paths, paths_from, if_some, at}
use Rattle.typst_node.proofs.Trees.{forest-trees}
use Rattle.typst_linked.specs.Place.{Place, subtree, below, child_place}
use Rattle.typst_linked.specs.Search.{is_there, first_path, last_path, found_below}
use Rattle.typst_node.proofs.FirstThatPasses.{find-map}
use Rattle.typst_linked.proofs.Found.{option_cases}
use Rattle.typst_node.proofs.PathSteps.{at-push}
use Rattle.typst_linked.proofs.Searching.{found_at, below-nothing}

-- the test at a path of a tree
abbrev pub test_at : (Tree → Bool) → Tree → List ℕ → Bool
test_at test t path = is_there test (at path t)

-- what is found among the children from an index on
abbrev pub first_from : (Tree → Bool) → Tree → ℕ → Option (List ℕ)
first_from test t i = find (test_at test t) (paths_from i (forest (drop i (trees t.children))))

-- the same below one child
below_child : (test : Tree → Bool) (t c : Tree) (i : ℕ) → slice_get (trees t.children) i ≡ Some c → find (test_at test t) (map (λ p. i ∷ p) (paths c)) ≡ option_map (λ p. i ∷ p) (first_path test c)
below_child test t c i s =
    find-map (test_at test t) (λ p. i ∷ p) (paths c) ∙ ap (λ (f : List ℕ → Bool). option_map (λ p. i ∷ p) (find f (paths c))) (λ x p. is_there test (if_some (at p) (s x)))

pub first_from-more : (test : Tree → Bool) (t c : Tree) (i : ℕ) → slice_get (trees t.children) i ≡ Some c → first_from test t i ≡ option_or (option_map (λ p. i ∷ p) (first_path test c)) (first_from test t (i + 1))
first_from-more test t c i s =
    let l = slice_get_within (trees t.children) i c s in
    let rest : drop i (trees t.children) ≡ c ∷ drop (i + 1) (trees t.children) =
    rw add-one (drop-cons (trees t.children) i c l) ∙ ap (λ d. d ∷ drop (i + 1) (trees t.children)) (get_or_from_slice_get (trees t.children) i c c s) in
    ap (λ ts. find (test_at test t) (paths_from i (forest ts))) rest
    ∙ find-append (test_at test t) (map (λ p. i ∷ p) (paths c)) (paths_from (i + 1) (forest (drop (i + 1) (trees t.children))))
    ∙ ap (λ o. option_or o (first_from test t (i + 1))) (below_child test t c i s)

-- where the node itself doesn't pass, its children decide
pub first_path-children : (test : Tree → Bool) (t : Tree) → test t ≡ false → first_path test t ≡ first_from test t 0
first_path-children test t h =
    ap (λ b. cond b (Some []) (find (test_at test t) (paths_from 0 t.children))) h
    ∙ ap (λ f. find (test_at test t) (paths_from 0 f)) (sym (forest-trees t.children))

pub drop_past : (ts : List Tree) (i : ℕ) → length ts ≤ i → drop i ts ≡ []
drop_past [] zero h = refl
drop_past [] (suc i) h = refl
drop_past (u ∷ ts) zero h = absurd (omega arith)
drop_past (u ∷ ts) (suc i) h = drop_past ts i (omega arith)

-- no child is left
pub first_from-end : (test : Tree → Bool) (t : Tree) (i : ℕ) → length (trees t.children) ≤ i → first_from test t i ≡ None
first_from-end test t i h = ap (λ ts. find (test_at test t) (paths_from i (forest ts))) (drop_past (trees t.children) i h)

-- nothing is found in a node without children that doesn't pass
pub first_none : (test : Tree → Bool) (n : Tree) → test n ≡ false → trees n.children ≡ [] → first_path test n ≡ None
first_none test n bad bare = first_path-children test n bad ∙ first_from-end test n 0 (omega (arith, ap length bare))

-- the same from the back
abbrev pub last_up : (Tree → Bool) → Tree → ℕ → Option (List ℕ)
last_up test t i = find (test_at test t) (reverse (paths_from 0 (forest (take i (trees t.children)))))

pub paths_from-push : (k : ℕ) (ts : List Tree) (c : Tree) → paths_from k (forest (ts ++ c ∷ [])) ≡ paths_from k (forest ts) ++ map (λ p. (k + length ts) ∷ p) (paths c)
paths_from-push k [] c =
    let z : k ≡ k + 0 = omega arith in
    append-nil (map (λ p. k ∷ p) (paths c)) ∙ ap (λ n. map (λ p. n ∷ p) (paths c)) z
paths_from-push k (t ∷ ts) c =
    let z : k + 1 + length ts ≡ k + suc (length ts) = omega arith in
    ap (λ ps. map (λ p. k ∷ p) (paths t) ++ ps) (paths_from-push (k + 1) ts c ∙ ap (λ n. paths_from (k + 1) (forest ts) ++ map (λ p. n ∷ p) (paths c)) z)
    ∙ sym (append_assoc (map (λ p. k ∷ p) (paths t)) (paths_from (k + 1) (forest ts)) _)

pub map-reverse : {X Y : Type 0} (g : X → Y) (xs : List X) → reverse (map g xs) ≡ map g (reverse xs)
map-reverse g [] = refl
map-reverse {X = X} g (x ∷ xs) = reverse-append (g x ∷ []) (map g xs) ∙ ap (λ ys. ys ++ g x ∷ []) (map-reverse g xs) ∙ sym (ap (map g) (reverse-append (x ∷ []) xs) ∙ map-push (reverse xs))
  where
    map-push : (ys : List X) → map g (ys ++ x ∷ []) ≡ map g ys ++ g x ∷ []
    map-push [] = refl
    map-push (y ∷ ys) = ap (λ zs. g y ∷ zs) (map-push ys)

below_child_last : (test : Tree → Bool) (t c : Tree) (i : ℕ) → slice_get (trees t.children) i ≡ Some c → find (test_at test t) (reverse (map (λ p. i ∷ p) (paths c))) ≡ option_map (λ p. i ∷ p) (last_path test c)
below_child_last test t c i s =
    ap (find (test_at test t)) (map-reverse (λ p. i ∷ p) (paths c)) ∙ find-map (test_at test t) (λ p. i ∷ p) (reverse (paths c))
    ∙ ap (λ (f : List ℕ → Bool). option_map (λ p. i ∷ p) (find f (reverse (paths c)))) (λ x p. is_there test (if_some (at p) (s x)))

pub front_length : (ts : List Tree) (i : ℕ) → i ≤ length ts → length (take i ts) ≡ i
front_length ts zero h = refl
front_length [] (suc i) h = absurd (omega arith)
front_length (u ∷ ts) (suc i) h = omega (arith, front_length ts i (omega arith))

pub last_up-more : (test : Tree → Bool) (t c : Tree) (i : ℕ) → slice_get (trees t.children) i ≡ Some c → last_up test t (i + 1) ≡ option_or (option_map (λ p. i ∷ p) (last_path test c)) (last_up test t i)
last_up-more test t c i s =
    let ts = trees t.children in
    let l = slice_get_within ts i c s in
    let front = take i ts in
    let long : length front ≡ i = front_length ts i (omega arith) in
    let z : 0 + length front ≡ i = omega arith in
    let more : take (i + 1) ts ≡ front ++ c ∷ [] = take_more ts i c l ∙ ap (λ d. front ++ d ∷ []) (get_or_from_slice_get ts i c c s) in
    let back : reverse (paths_from 0 (forest (take (i + 1) ts))) ≡ reverse (map (λ p. i ∷ p) (paths c)) ++ reverse (paths_from 0 (forest front)) =
    ap (λ us. reverse (paths_from 0 (forest us))) more
    ∙ ap reverse (paths_from-push 0 front c ∙ ap (λ n. paths_from 0 (forest front) ++ map (λ p. n ∷ p) (paths c)) z)
    ∙ reverse-append (paths_from 0 (forest front)) (map (λ p. i ∷ p) (paths c)) in
    ap (find (test_at test t)) back
    ∙ find-append (test_at test t) (reverse (map (λ p. i ∷ p) (paths c))) (reverse (paths_from 0 (forest front)))
    ∙ ap (λ o. option_or o (last_up test t i)) (below_child_last test t c i s)

-- where the node itself doesn't pass, its children decide
pub last_path-children : (test : Tree → Bool) (t : Tree) (n : ℕ) → test t ≡ false → n ≡ length (trees t.children) → last_path test t ≡ last_up test t n
last_path-children test t n h e =
    let all : take n (trees t.children) ≡ trees t.children = ap (λ k. take k (trees t.children)) e ∙ take_all (trees t.children) in
    let none : find (test_at test t) ([] ∷ []) ≡ None = ap (λ b. cond b (Some []) None) h in
    ap (find (test_at test t)) (reverse-append ([] ∷ []) (paths_from 0 t.children))
    ∙ find-append (test_at test t) (reverse (paths_from 0 t.children)) ([] ∷ [])
    ∙ ap (option_or (find (test_at test t) (reverse (paths_from 0 t.children)))) none
    ∙ or_none (find (test_at test t) (reverse (paths_from 0 t.children)))
    ∙ ap (λ f. find (test_at test t) (reverse (paths_from 0 f))) (sym (ap forest all ∙ forest-trees t.children))
  where
    take_all : (ts : List Tree) → take (length ts) ts ≡ ts
    take_all [] = refl
    take_all (u ∷ ts) = ap (λ us. u ∷ us) (take_all ts)

    or_none : (o : Option (List ℕ)) → option_or o None ≡ o
    or_none None = refl
    or_none (Some p) = refl

-- what is found below a child, and that nothing is found there
pub below_hit : (look : Tree → Option (List ℕ)) (p : Place) (c : Tree) (i : ℕ) (leaf : Place) → subtree (child_place p i) ≡ Some c → Some leaf ≡ found_below look (child_place p i) → (q : List ℕ) × (look c ≡ Some q) × (leaf ≡ below p (i ∷ q))
below_hit look p c i leaf h e = elim (option_cases (look c)) [
  | inl absent ↦
      let bad : Some leaf ≡ None = e ∙ found_at look (child_place p i) c None h absent in
      absurd (cc)
  | inr q ↦
      let same : Some leaf ≡ Some (below (child_place p i) q.0) = e ∙ found_at look (child_place p i) c (Some q.0) h q.1 in
      let one : leaf ≡ below (child_place p i) q.0 = cc in
      (q.0, q.1, one ∙ (λ x. record { root = p.root; path = append_assoc p.path (i ∷ []) q.0 x }))
]

pub below_miss : (look : Tree → Option (List ℕ)) (p : Place) (c : Tree) (i : ℕ) → subtree (child_place p i) ≡ Some c → None ≡ found_below look (child_place p i) → look c ≡ None
below_miss look p c i h e = elim (option_cases (look c)) [
  | inl absent ↦ absent
  | inr q ↦
      let bad : None ≡ Some (below (child_place p i) q.0) = e ∙ found_at look (child_place p i) c (Some q.0) h q.1 in
      absurd (cc)
]

pub first_hit : (test : Tree → Bool) (p : Place) (n c : Tree) (i : ℕ) (leaf : Place) → subtree p ≡ Some n → slice_get (trees n.children) i ≡ Some c → first_path test n ≡ first_from test n i → Some leaf ≡ found_below (first_path test) (child_place p i) → Some leaf ≡ found_below (first_path test) p
first_hit test p n c i leaf h s sofar e =
    let x = below_hit (first_path test) p c i leaf (at-push p.path i p.root n c h s) e in
    let there : first_path test n ≡ Some (i ∷ x.0) = sofar ∙ first_from-more test n c i s ∙ ap (λ o. option_or (option_map (λ q. i ∷ q) o) (first_from test n (i + 1))) x.1 in
    ap Some x.2 ∙ sym (found_at (first_path test) p n (Some (i ∷ x.0)) h there)

pub first_miss : (test : Tree → Bool) (p : Place) (n c : Tree) (i : ℕ) → subtree p ≡ Some n → slice_get (trees n.children) i ≡ Some c → first_path test n ≡ first_from test n i → None ≡ found_below (first_path test) (child_place p i) → first_path test n ≡ first_from test n (i + 1)
first_miss test p n c i h s sofar e =
    let x = below_miss (first_path test) p c i (at-push p.path i p.root n c h s) e in
    sofar ∙ first_from-more test n c i s ∙ ap (λ o. option_or (option_map (λ q. i ∷ q) o) (first_from test n (i + 1))) x

pub last_hit : (test : Tree → Bool) (p : Place) (n c : Tree) (i : ℕ) (leaf : Place) → subtree p ≡ Some n → slice_get (trees n.children) i ≡ Some c → last_path test n ≡ last_up test n (i + 1) → Some leaf ≡ found_below (last_path test) (child_place p i) → Some leaf ≡ found_below (last_path test) p
last_hit test p n c i leaf h s sofar e =
    let x = below_hit (last_path test) p c i leaf (at-push p.path i p.root n c h s) e in
    let there : last_path test n ≡ Some (i ∷ x.0) = sofar ∙ last_up-more test n c i s ∙ ap (λ o. option_or (option_map (λ q. i ∷ q) o) (last_up test n i)) x.1 in
    ap Some x.2 ∙ sym (found_at (last_path test) p n (Some (i ∷ x.0)) h there)

pub last_miss : (test : Tree → Bool) (p : Place) (n c : Tree) (i : ℕ) → subtree p ≡ Some n → slice_get (trees n.children) i ≡ Some c → last_path test n ≡ last_up test n (i + 1) → None ≡ found_below (last_path test) (child_place p i) → last_path test n ≡ last_up test n i
last_miss test p n c i h s sofar e =
    let x = below_miss (last_path test) p c i (at-push p.path i p.root n c h s) e in
    sofar ∙ last_up-more test n c i s ∙ ap (λ o. option_or (option_map (λ q. i ∷ q) o) (last_up test n i)) x

-- a node without children that passes is the last one itself
pub last_path-self : (test : Tree → Bool) (n : Tree) → test n ≡ true → trees n.children ≡ [] → last_path test n ≡ Some []
last_path-self test n good childless =
    let bare : n.children ≡ none = sym (forest-trees n.children) ∙ ap forest childless in
    ap (λ f. find (test_at test n) (reverse ([] ∷ paths_from 0 f))) bare ∙ ap (λ b. cond b (Some []) None) good

pub last_here : (test : Tree → Bool) (p : Place) (n : Tree) → subtree p ≡ Some n → test n ≡ true → trees n.children ≡ [] → Some p ≡ found_below (last_path test) p
last_here test p n h good childless = ap Some (below-nothing p) ∙ sym (found_at (last_path test) p n (Some []) h (last_path-self test n good childless))

-- what a test tells that came out false
pub not_passed : (r b : Bool) → (b ≡ true → r ≡ true) → r ≡ false → b ≡ false
not_passed r true h e = absurd (let bad : true ≡ false = sym (h refl) ∙ e in cc)
not_passed r false h e = refl

-- nothing is found in a node without children that doesn't pass
pub last_none : (test : Tree → Bool) (n : Tree) → test n ≡ false → trees n.children ≡ [] → last_path test n ≡ None
last_none test n bad bare = last_path-children test n 0 bad (sym (ap length bare))

-- a node that passes is the first one itself
pub first_here : (test : Tree → Bool) (p : Place) (n : Tree) → subtree p ≡ Some n → test n ≡ true → Some p ≡ found_below (first_path test) p
first_here test p n h good =
    let there : first_path test n ≡ Some [] = ap (λ b. cond b (Some []) (find (test_at test n) (paths_from 0 n.children))) good in
    ap Some (below-nothing p) ∙ sym (found_at (first_path test) p n (Some []) h there)
