-- The stops before a path, one level after the other.
use Rattle.std.proofs.Common.{◌≡◌, ℕ, ◌+◌, ◌<◌, ◌≤◌, List, [], ◌∷◌, ◌++◌, length, map, take, reverse, Option, None, Some, Bool, true, false, ◌&&◌, inl, inr, refl, sym, ◌∙◌, ap, arith}
use Rattle.std.specs.Prelude.{slice_get}
use Rattle.std.proofs.lemmas.Option.{slice_get_within, get_or_from_slice_get}
use Rattle.std.specs.List.{find, before_first}
use Rattle.std.specs.Option.{option_map, option_or}
use Rattle.std.proofs.lemmas.List.{take_more, reverse-append}
use Rattle.std.proofs.lemmas.List.Folds.{find-append}
use Rattle.typst_node.specs.Tree.{Forest, none, tree, Tree, trees, forest}
use Rattle.typst_node.specs.Preorder.{paths, paths_from, if_some, at}
use Rattle.typst_node.specs.Text.{is_same_path}
use Rattle.typst_node.proofs.Trees.{trees_of_forest}
use Rattle.typst_linked.specs.Place.{Place, subtree, below, child_place}
use Rattle.typst_linked.specs.Search.{is_there, last_path, found_below}
use Rattle.typst_linked.specs.Siblings.{is_solid}
use Rattle.typst_linked.specs.Leaves.{is_good, is_stop, stop_before, is_later, earlier_up, elsewhere}
use Rattle.typst_node.proofs.PathSteps.{if_some_value, at-push}
use Rattle.typst_node.proofs.FirstThatPasses.{before-miss, find-map}
use Rattle.typst_node.proofs.ListedPaths.{before_from}
use Rattle.typst_linked.proofs.Found.{find_none, option_cases}
use Rattle.typst_linked.proofs.Searching.{found_at}
use Rattle.typst_linked.proofs.Walks.{map-reverse, paths_from-push, front_length, below_hit, below_miss}
use Rattle.typst_linked.proofs.Stops.{stop_elsewhere, stop_below, map_twice, or_map, map_same}

-- tests that agree on the paths up to an index find the same from the back
agrees_back : (test other : List ℕ → Bool) (k : ℕ) (f : Forest) → ((j : ℕ) (q : List ℕ) → j < k + length (trees f) → test (j ∷ q) ≡ other (j ∷ q)) → find test (reverse (paths_from k f)) ≡ find other (reverse (paths_from k f))
agrees_back test other k none h = refl
agrees_back test other k (tree l d r) h =
    let block = paths (record { label = l; children = d }) in
    let back : reverse (map (λ p. k ∷ p) block) ≡ map (λ p. k ∷ p) (reverse block) = map-reverse (λ p. k ∷ p) block in
    let here : find test (reverse (map (λ p. k ∷ p) block)) ≡ find other (reverse (map (λ p. k ∷ p) block)) =
    ap (find test) back ∙ find-map test (λ p. k ∷ p) (reverse block)
    ∙ ap (λ (g : List ℕ → Bool). option_map (λ p. k ∷ p) (find g (reverse block))) (λ x p. h k p (omega arith) x)
    ∙ sym (ap (find other) back ∙ find-map other (λ p. k ∷ p) (reverse block)) in
    let parts : reverse (paths_from k (tree l d r)) ≡ reverse (paths_from (k + 1) r) ++ reverse (map (λ p. k ∷ p) block) = reverse-append (map (λ p. k ∷ p) block) (paths_from (k + 1) r) in
    ap (find test) parts ∙ find-append test (reverse (paths_from (k + 1) r)) (reverse (map (λ p. k ∷ p) block))
    ∙ (λ x. option_or (agrees_back test other (k + 1) r (λ j q le. h j q (omega arith)) x) (here x))
    ∙ sym (ap (find other) parts ∙ find-append other (reverse (paths_from (k + 1) r)) (reverse (map (λ p. k ∷ p) block)))

or_none : (o : Option (List ℕ)) → option_or o None ≡ o
or_none None = refl
or_none (Some p) = refl

-- nothing comes before a root
pub stop_before-root : (t : Tree) → stop_before t [] ≡ None
stop_before-root t = find_none (is_stop t []) (reverse (before_first (is_same_path []) (paths t))) (λ q. refl)

front_within : (ts : List Tree) (i : ℕ) → i ≤ length ts → length (trees (forest (take i ts))) ≡ i
front_within ts i h = ap length (trees_of_forest (take i ts)) ∙ front_length ts i h

-- the stop before a path: that below its first step, else one of the earlier children
pub stop_before-cons : (t c m : Tree) (i : ℕ) (q : List ℕ) → slice_get (trees t.children) i ≡ Some c → at q c ≡ Some m → stop_before t (i ∷ q) ≡ option_or (option_map (λ p. i ∷ p) (stop_before c q)) (earlier_up t i)
stop_before-cons t c m i q s h =
    let z : i ≡ 0 + i = omega arith in
    let front = paths_from 0 (forest (take i (trees t.children))) in
    let block = before_first (is_same_path q) (paths c) in
    let listed : before_first (is_same_path (i ∷ q)) (paths t) ≡ ([] ∷ []) ++ (front ++ map (λ p. i ∷ p) block) =
    before-miss (is_same_path (i ∷ q)) [] (paths_from 0 t.children) refl
    ∙ ap (λ ps. [] ∷ ps) (ap (λ n. before_first (is_same_path (n ∷ q)) (paths_from 0 t.children)) z ∙ before_from 0 t.children i q c m s h ∙ ap (λ n. front ++ map (λ p. n ∷ p) block) (sym z)) in
    let back : reverse (([] ∷ []) ++ (front ++ map (λ p. i ∷ p) block)) ≡ (map (λ p. i ∷ p) (reverse block) ++ reverse front) ++ ([] ∷ []) =
    reverse-append ([] ∷ []) (front ++ map (λ p. i ∷ p) block)
    ∙ ap (λ ps. ps ++ ([] ∷ [])) (reverse-append front (map (λ p. i ∷ p) block) ∙ ap (λ ps. ps ++ reverse front) (map-reverse (λ p. i ∷ p) block)) in
    let test = is_stop t (i ∷ q) in
    let below : find test (map (λ p. i ∷ p) (reverse block)) ≡ option_map (λ p. i ∷ p) (stop_before c q) =
    find-map test (λ p. i ∷ p) (reverse block) ∙ ap (λ (g : List ℕ → Bool). option_map (λ p. i ∷ p) (find g (reverse block))) (λ x p. stop_below t c i q p s x) in
    let within = slice_get_within (trees t.children) i c s in
    let earlier : find test (reverse front) ≡ earlier_up t i =
    agrees_back test (is_later t) 0 (forest (take i (trees t.children))) (λ j p le. stop_elsewhere t i q j p (λ same. omega (arith, front_within (trees t.children) i (omega arith)))) in
    ap (λ ps. find test (reverse ps)) listed ∙ ap (find test) back
    ∙ find-append test (map (λ p. i ∷ p) (reverse block) ++ reverse front) ([] ∷ [])
    ∙ or_none (find test (map (λ p. i ∷ p) (reverse block) ++ reverse front))
    ∙ find-append test (map (λ p. i ∷ p) (reverse block)) (reverse front)
    ∙ (λ x. option_or (below x) (earlier x))

-- the stop before a child: in an earlier sibling, else before the parent
pub stop_before-push : (p : List ℕ) (i : ℕ) (t m c : Tree) → at p t ≡ Some m → slice_get (trees m.children) i ≡ Some c →
    stop_before t (p ++ i ∷ []) ≡ option_or (option_map (λ q. p ++ q) (earlier_up m i)) (stop_before t p)
stop_before-push [] i t m c h s =
    let h : Some t ≡ Some m = h in
    let same : t ≡ m = cc in
    let back : slice_get (trees t.children) i ≡ Some c = ap (λ (u : Tree). slice_get (trees u.children) i) same ∙ s in
    stop_before-cons t c c i [] back refl
    ∙ ap (λ o. option_or (option_map (λ q. i ∷ q) o) (earlier_up t i)) (stop_before-root c)
    ∙ map_same (earlier_up t i)
    ∙ ap (λ (u : Tree). option_or (option_map (λ q. [] ++ q) (earlier_up u i)) None) same
    ∙ sym (ap (option_or (option_map (λ q. [] ++ q) (earlier_up m i))) (stop_before-root t))
stop_before-push (j ∷ p) i t m c h s =
    let x = if_some_value (at p) (slice_get (trees t.children) j) m h in
    stop_before-cons t x.0 c j (p ++ i ∷ []) x.1 (at-push p i x.0 m c x.2 s)
    ∙ ap (λ o. option_or (option_map (λ q. j ∷ q) o) (earlier_up t j)) (stop_before-push p i x.0 m c x.2 s)
    ∙ or_map j (option_map (λ q. p ++ q) (earlier_up m i)) (stop_before x.0 p) (earlier_up t j)
    ∙ (λ y. option_or (map_twice p [] j (earlier_up m i) y) (sym (stop_before-cons t x.0 m j p x.1 x.2) y))

-- the earlier children, one after the other
earlier_block : (t c : Tree) (i : ℕ) → slice_get (trees t.children) i ≡ Some c → earlier_up t (i + 1) ≡ option_or (option_map (λ p. i ∷ p) (find (λ q. is_solid c && is_there is_good (at q c)) (reverse (paths c)))) (earlier_up t i)
earlier_block t c i s =
    let ts = trees t.children in
    let l = slice_get_within ts i c s in
    let front = take i ts in
    let long : length front ≡ i = front_length ts i (omega arith) in
    let z : 0 + length front ≡ i = omega arith in
    let more : take (i + 1) ts ≡ front ++ c ∷ [] = take_more ts i c l ∙ ap (λ d. front ++ d ∷ []) (get_or_from_slice_get ts i c c s) in
    let back : reverse (paths_from 0 (forest (take (i + 1) ts))) ≡ map (λ p. i ∷ p) (reverse (paths c)) ++ reverse (paths_from 0 (forest front)) =
    ap (λ us. reverse (paths_from 0 (forest us))) more
    ∙ ap reverse (paths_from-push 0 front c ∙ ap (λ n. paths_from 0 (forest front) ++ map (λ p. n ∷ p) (paths c)) z)
    ∙ reverse-append (paths_from 0 (forest front)) (map (λ p. i ∷ p) (paths c))
    ∙ ap (λ ps. ps ++ reverse (paths_from 0 (forest front))) (map-reverse (λ p. i ∷ p) (paths c)) in
    ap (find (is_later t)) back
    ∙ find-append (is_later t) (map (λ p. i ∷ p) (reverse (paths c))) (reverse (paths_from 0 (forest front)))
    ∙ ap (λ o. option_or o (earlier_up t i))
    (find-map (is_later t) (λ p. i ∷ p) (reverse (paths c)) ∙ ap (λ (g : List ℕ → Bool). option_map (λ p. i ∷ p) (find g (reverse (paths c)))) (λ x q. is_there is_solid (if_some (at []) (s x)) && is_there is_good (if_some (at q) (s x))))

earlier_solid : (t c : Tree) (i : ℕ) → slice_get (trees t.children) i ≡ Some c → is_solid c ≡ true → earlier_up t (i + 1) ≡ option_or (option_map (λ p. i ∷ p) (last_path is_good c)) (earlier_up t i)
earlier_solid t c i s e =
    earlier_block t c i s ∙ ap (λ b. option_or (option_map (λ p. i ∷ p) (find (λ q. b && is_there is_good (at q c)) (reverse (paths c)))) (earlier_up t i)) e

pub earlier_trivia : (t c : Tree) (i : ℕ) → slice_get (trees t.children) i ≡ Some c → is_solid c ≡ false → earlier_up t (i + 1) ≡ earlier_up t i
earlier_trivia t c i s e =
    earlier_block t c i s ∙ ap (λ b. option_or (option_map (λ p. i ∷ p) (find (λ q. b && is_there is_good (at q c)) (reverse (paths c)))) (earlier_up t i)) e
    ∙ ap (λ o. option_or (option_map (λ p. i ∷ p) o) (earlier_up t i)) (find_none (λ q. false) (reverse (paths c)) (λ q. refl))

-- a good leaf below an earlier child, and none there
pub earlier_hit : (p : Place) (n c : Tree) (end i : ℕ) (leaf : Place) → subtree p ≡ Some n → slice_get (trees n.children) i ≡ Some c → is_solid c ≡ true → earlier_up n end ≡ earlier_up n (i + 1) → Some leaf ≡ found_below (last_path is_good) (child_place p i) → Some leaf ≡ found_below (λ t. earlier_up t end) p
earlier_hit p n c end i leaf h s solid sofar e =
    let x = below_hit (last_path is_good) p c i leaf (at-push p.path i p.root n c h s) e in
    let there : earlier_up n end ≡ Some (i ∷ x.0) = sofar ∙ earlier_solid n c i s solid ∙ ap (λ o. option_or (option_map (λ q. i ∷ q) o) (earlier_up n i)) x.1 in
    ap Some x.2 ∙ sym (found_at (λ t. earlier_up t end) p n (Some (i ∷ x.0)) h there)

pub earlier_miss : (p : Place) (n c : Tree) (end i : ℕ) → subtree p ≡ Some n → slice_get (trees n.children) i ≡ Some c → is_solid c ≡ true → earlier_up n end ≡ earlier_up n (i + 1) → None ≡ found_below (last_path is_good) (child_place p i) → earlier_up n end ≡ earlier_up n i
earlier_miss p n c end i h s solid sofar e =
    let x = below_miss (last_path is_good) p c i (at-push p.path i p.root n c h s) e in
    sofar ∙ earlier_solid n c i s solid ∙ ap (λ o. option_or (option_map (λ q. i ∷ q) o) (earlier_up n i)) x

-- the stop before a child is in an earlier sibling, or it is that before the parent
pub prev_hit : (p : Place) (i : ℕ) (m c : Tree) (leaf : Place) → subtree p ≡ Some m → slice_get (trees m.children) i ≡ Some c → Some leaf ≡ found_below (λ t. earlier_up t i) p → Some leaf ≡ elsewhere stop_before (child_place p i)
prev_hit p i m c leaf h s e = elim (option_cases (earlier_up m i)) [
  | inl absent ↦
      let bad : Some leaf ≡ None = e ∙ found_at (λ t. earlier_up t i) p m None h absent in
      absurd (cc)
  | inr q ↦
      let here : Some leaf ≡ Some (below p q.0) = e ∙ found_at (λ t. earlier_up t i) p m (Some q.0) h q.1 in
      let stop : stop_before p.root (p.path ++ i ∷ []) ≡ Some (p.path ++ q.0) = stop_before-push p.path i p.root m c h s ∙ ap (λ o. option_or (option_map (λ r. p.path ++ r) o) (stop_before p.root p.path)) q.1 in
      here ∙ sym (ap (option_map (λ r. record { root = p.root; path = r })) stop)
]

pub prev_miss : (p : Place) (i : ℕ) (m c : Tree) → subtree p ≡ Some m → slice_get (trees m.children) i ≡ Some c → None ≡ found_below (λ t. earlier_up t i) p → elsewhere stop_before p ≡ elsewhere stop_before (child_place p i)
prev_miss p i m c h s e = elim (option_cases (earlier_up m i)) [
  | inl absent ↦
      let stop : stop_before p.root (p.path ++ i ∷ []) ≡ stop_before p.root p.path = stop_before-push p.path i p.root m c h s ∙ ap (λ o. option_or (option_map (λ r. p.path ++ r) o) (stop_before p.root p.path)) absent in
      sym (ap (option_map (λ r. record { root = p.root; path = r })) stop)
  | inr q ↦
      let bad : None ≡ Some (below p q.0) = e ∙ found_at (λ t. earlier_up t i) p m (Some q.0) h q.1 in
      absurd (cc)
]

pub root_start : (p : Place) → p.path ≡ [] → None ≡ elsewhere stop_before p
root_start p e = sym (ap (option_map (λ r. record { root = p.root; path = r })) (ap (stop_before p.root) e ∙ stop_before-root p.root))
