-- The stops after and before a path, one level after the other.
use Rattle.std.proofs.Common.{◌≡◌, ℕ, suc, zero, ◌+◌, ◌≤◌, List, [], ◌∷◌, ◌++◌, map, drop, Option, None, Some, Bool, true, false, ◌&&◌, cond, inl, inr, refl, sym, ◌∙◌, ap, arith, add-one, drop-cons}
use Rattle.std.specs.Prelude.{slice_get}
use Rattle.std.proofs.lemmas.Option.{slice_get_within, get_or_from_slice_get}
use Rattle.typst_linked.proofs.Walks.{below_hit, below_miss}
use Rattle.typst_linked.proofs.Searching.{found_at}
use Rattle.typst_linked.specs.Place.{Place, subtree, below, child_place}
use Rattle.std.specs.List.{find, before_first, after_first}
use Rattle.std.specs.Option.{option_map, option_or}
use Rattle.std.proofs.lemmas.List.Folds.{find-append}
use Rattle.std.proofs.lemmas.Bool.Decides.{eqb_tells}
use Rattle.typst_node.specs.Tree.{Label, Forest, none, tree, Tree, trees, forest}
use Rattle.typst_node.specs.Preorder.{paths, paths_from, if_some, at}
use Rattle.typst_node.specs.Text.{is_same_path}
use Rattle.typst_node.proofs.Trees.{forest-trees}
use Rattle.typst_linked.specs.Search.{is_there, first_path, found_below}
use Rattle.typst_linked.specs.Siblings.{is_solid}
use Rattle.typst_linked.specs.Leaves.{is_good, branch, leads_to_solid, is_stop, stop_behind, is_later, later_from, elsewhere}
use Rattle.typst_node.proofs.PathSteps.{if_some_value, at-push}
use Rattle.typst_node.proofs.FirstThatPasses.{after-miss, after-append_hit, after-append_miss, after-map, find-map}
use Rattle.typst_node.proofs.EqualPaths.{any_below, none_below, same_below}
use Rattle.typst_node.proofs.ListedPaths.{listed}
use Rattle.typst_linked.proofs.Found.{find_none, option_cases}

-- the trees after an index, with the index of the first of them
abbrev paths_behind : ℕ → Forest → ℕ → List (List ℕ)
paths_behind k f i = paths_from (k + i + 1) (forest (drop (i + 1) (trees f)))

behind_first : (k : ℕ) (l : Label) (d r : Forest) → paths_from (k + 1) r ≡ paths_behind k (tree l d r) 0
behind_first k l d r =
    let e : k + 1 ≡ k + 0 + 1 = omega arith in
    let one : 1 ≡ 0 + 1 = omega arith in
    ap (λ n. paths_from n r) e ∙ ap (paths_from (k + 0 + 1)) (sym (forest-trees r)) ∙ ap (λ n. paths_from (k + 0 + 1) (forest (drop n (trees (tree l d r))))) one

behind_later : (k : ℕ) (l : Label) (d r : Forest) (i : ℕ) → paths_behind (k + 1) r i ≡ paths_behind k (tree l d r) (suc i)
behind_later k l d r i =
    let e : k + 1 + i + 1 ≡ k + suc i + 1 = omega arith in
    let n : suc (i + 1) ≡ suc i + 1 = omega arith in
    ap (λ j. paths_from j (forest (drop (i + 1) (trees r)))) e ∙ ap (λ j. paths_from (k + suc i + 1) (forest (drop j (trees (tree l d r))))) n

-- what is listed after a path: what is listed after the rest of it below its first step, and the trees after that
pub after_from : (k : ℕ) (f : Forest) (i : ℕ) (q : List ℕ) (c m : Tree) → slice_get (trees f) i ≡ Some c → at q c ≡ Some m →
    after_first (is_same_path ((k + i) ∷ q)) (paths_from k f) ≡ map (λ p. (k + i) ∷ p) (after_first (is_same_path q) (paths c)) ++ paths_behind k f i
after_from k none i q c m s h = absurd (let s : None ≡ Some c = s in cc)
after_from k (tree l d r) zero q c m s h =
    let s : Some (record { label = l; children = d }) ≡ Some c = s in
    let same : record { label = l; children = d } ≡ c = cc in
    let e : k + 0 ≡ k = omega arith in
    let first : after_first (is_same_path (k ∷ q)) (map (λ p. k ∷ p) (paths (record { label = l; children = d }))) ≡ map (λ p. k ∷ p) (after_first (is_same_path q) (paths c)) =
    after-map (is_same_path (k ∷ q)) (λ p. k ∷ p) (paths (record { label = l; children = d }))
    ∙ ap (λ (test : List ℕ → Bool). map (λ p. k ∷ p) (after_first test (paths (record { label = l; children = d })))) (λ x p. same_below k q p x)
    ∙ ap (λ (t : Tree). map (λ p. k ∷ p) (after_first (is_same_path q) (paths t))) same in
    ap (λ n. after_first (is_same_path (n ∷ q)) (paths_from k (tree l d r))) e
    ∙ after-append_hit (is_same_path (k ∷ q)) (map (λ p. k ∷ p) (paths (record { label = l; children = d }))) (paths_from (k + 1) r) (any_below k q (paths (record { label = l; children = d })) ∙ ap (λ (t : Tree). Rattle.std.specs.List.list_any (is_same_path q) (paths t)) same ∙ listed q c m h)
    ∙ ap (λ ps. ps ++ paths_from (k + 1) r) (first ∙ ap (λ n. map (λ p. n ∷ p) (after_first (is_same_path q) (paths c))) (sym e))
    ∙ ap (λ ps. map (λ p. (k + 0) ∷ p) (after_first (is_same_path q) (paths c)) ++ ps) (behind_first k l d r)
after_from k (tree l d r) (suc i) q c m s h =
    let e : k + suc i ≡ k + 1 + i = omega arith in
    let apart : k + suc i ≡ k → ⊥ = λ bad. omega arith in
    after-append_miss (is_same_path ((k + suc i) ∷ q)) (map (λ p. k ∷ p) (paths (record { label = l; children = d }))) (paths_from (k + 1) r) (none_below (k + suc i) k q (paths (record { label = l; children = d })) apart)
    ∙ ap (λ n. after_first (is_same_path (n ∷ q)) (paths_from (k + 1) r)) e
    ∙ after_from (k + 1) r i q c m s h
    ∙ ap (λ n. map (λ p. n ∷ p) (after_first (is_same_path q) (paths c)) ++ paths_behind (k + 1) r i) (sym e)
    ∙ ap (λ ps. map (λ p. (k + suc i) ∷ p) (after_first (is_same_path q) (paths c)) ++ ps) (behind_later k l d r i)

-- tests that agree on the paths from an index on find the same
find_agrees : (test other : List ℕ → Bool) (k : ℕ) (f : Forest) → ((j : ℕ) (q : List ℕ) → k ≤ j → test (j ∷ q) ≡ other (j ∷ q)) → find test (paths_from k f) ≡ find other (paths_from k f)
find_agrees test other k none h = refl
find_agrees test other k (tree l d r) h =
    let block = paths (record { label = l; children = d }) in
    let here : find test (map (λ p. k ∷ p) block) ≡ find other (map (λ p. k ∷ p) block) =
    find-map test (λ p. k ∷ p) block ∙ ap (λ (g : List ℕ → Bool). option_map (λ p. k ∷ p) (find g block)) (λ x p. h k p (omega arith) x) ∙ sym (find-map other (λ p. k ∷ p) block) in
    find-append test (map (λ p. k ∷ p) block) (paths_from (k + 1) r)
    ∙ (λ x. option_or (here x) (find_agrees test other (k + 1) r (λ j q le. h j q (omega arith)) x))
    ∙ sym (find-append other (map (λ p. k ∷ p) block) (paths_from (k + 1) r))

-- a path with another first step stops at that step's child
pub stop_elsewhere : (t : Tree) (i : ℕ) (p : List ℕ) (j : ℕ) (q : List ℕ) → (i ≡ j → ⊥) → is_stop t (i ∷ p) (j ∷ q) ≡ is_later t (j ∷ q)
stop_elsewhere t i p j q h = elim (eqb_tells i j) [
  | inl e ↦ absurd (h e.1)
  | inr e ↦ ap (λ b. leads_to_solid t (cond b (option_map (λ s. i ∷ s) (branch p q)) (Some (j ∷ []))) && is_there is_good (at (j ∷ q) t)) e.0
]

solid_below : (t c : Tree) (i : ℕ) (o : Option (List ℕ)) → slice_get (trees t.children) i ≡ Some c → leads_to_solid t (option_map (λ s. i ∷ s) o) ≡ leads_to_solid c o
solid_below t c i None s = refl
solid_below t c i (Some b) s = ap (λ o. is_there is_solid (if_some (at b) o)) s

-- a path with the same first step stops as below that child
pub stop_below : (t c : Tree) (i : ℕ) (p q : List ℕ) → slice_get (trees t.children) i ≡ Some c → is_stop t (i ∷ p) (i ∷ q) ≡ is_stop c p q
stop_below t c i p q s = elim (eqb_tells i i) [
  | inr e ↦ absurd (e.1 refl)
  | inl e ↦
      ap (λ b. leads_to_solid t (cond b (option_map (λ s. i ∷ s) (branch p q)) (Some (i ∷ []))) && is_there is_good (at (i ∷ q) t)) e.0
      ∙ (λ x. solid_below t c i (branch p q) s x && is_there is_good (if_some (at q) (s x)))
]

-- nothing comes after a root
pub stop_behind-root : (t : Tree) → stop_behind t [] ≡ None
stop_behind-root t = find_none (is_stop t []) (after_first (is_same_path []) (paths t)) (λ q. refl)

-- the stop after a path: that below its first step, else one of the later children
pub stop_behind-cons : (t c m : Tree) (i : ℕ) (q : List ℕ) → slice_get (trees t.children) i ≡ Some c → at q c ≡ Some m → stop_behind t (i ∷ q) ≡ option_or (option_map (λ p. i ∷ p) (stop_behind c q)) (later_from t (i + 1))
stop_behind-cons t c m i q s h =
    let z : i ≡ 0 + i = omega arith in
    let y : 0 + i + 1 ≡ i + 1 = omega arith in
    let block = after_first (is_same_path q) (paths c) in
    let listed : after_first (is_same_path (i ∷ q)) (paths t) ≡ map (λ p. i ∷ p) block ++ paths_from (i + 1) (forest (drop (i + 1) (trees t.children))) =
    after-miss (is_same_path (i ∷ q)) [] (paths_from 0 t.children) refl
    ∙ ap (λ n. after_first (is_same_path (n ∷ q)) (paths_from 0 t.children)) z
    ∙ after_from 0 t.children i q c m s h
    ∙ ap (λ n. map (λ p. n ∷ p) block ++ paths_behind 0 t.children i) (sym z)
    ∙ ap (λ n. map (λ p. i ∷ p) block ++ paths_from n (forest (drop (i + 1) (trees t.children)))) y in
    let below : find (is_stop t (i ∷ q)) (map (λ p. i ∷ p) block) ≡ option_map (λ p. i ∷ p) (stop_behind c q) =
    find-map (is_stop t (i ∷ q)) (λ p. i ∷ p) block ∙ ap (λ (g : List ℕ → Bool). option_map (λ p. i ∷ p) (find g block)) (λ x p. stop_below t c i q p s x) in
    let later : find (is_stop t (i ∷ q)) (paths_from (i + 1) (forest (drop (i + 1) (trees t.children)))) ≡ later_from t (i + 1) =
    find_agrees (is_stop t (i ∷ q)) (is_later t) (i + 1) (forest (drop (i + 1) (trees t.children))) (λ j p le. stop_elsewhere t i q j p (λ same. omega arith)) in
    ap (find (is_stop t (i ∷ q))) listed
    ∙ find-append (is_stop t (i ∷ q)) (map (λ p. i ∷ p) block) (paths_from (i + 1) (forest (drop (i + 1) (trees t.children))))
    ∙ (λ x. option_or (below x) (later x))

-- options: what is mapped twice, and what is chosen of three
pub map_twice : (p q : List ℕ) (i : ℕ) (o : Option (List ℕ)) → option_map (λ s. i ∷ s) (option_map (λ s. p ++ s) o) ≡ option_map (λ s. (i ∷ p) ++ s) o
map_twice p q i None = refl
map_twice p q i (Some s) = refl

pub or_map : (i : ℕ) (a b c : Option (List ℕ)) → option_or (option_map (λ s. i ∷ s) (option_or a b)) c ≡ option_or (option_map (λ s. i ∷ s) a) (option_or (option_map (λ s. i ∷ s) b) c)
or_map i None b c = refl
or_map i (Some s) b c = refl

pub map_same : (o : Option (List ℕ)) → option_or None o ≡ option_or (option_map (λ s. [] ++ s) o) None
map_same None = refl
map_same (Some s) = refl

-- the stop after a child: in a later sibling, else after the parent
pub stop_behind-push : (p : List ℕ) (i : ℕ) (t m c : Tree) → at p t ≡ Some m → slice_get (trees m.children) i ≡ Some c →
    stop_behind t (p ++ i ∷ []) ≡ option_or (option_map (λ q. p ++ q) (later_from m (i + 1))) (stop_behind t p)
stop_behind-push [] i t m c h s =
    let h : Some t ≡ Some m = h in
    let same : t ≡ m = cc in
    let back : slice_get (trees t.children) i ≡ Some c = ap (λ (u : Tree). slice_get (trees u.children) i) same ∙ s in
    stop_behind-cons t c c i [] back refl
    ∙ ap (λ o. option_or (option_map (λ q. i ∷ q) o) (later_from t (i + 1))) (stop_behind-root c)
    ∙ map_same (later_from t (i + 1))
    ∙ ap (λ (u : Tree). option_or (option_map (λ q. [] ++ q) (later_from u (i + 1))) None) same
    ∙ sym (ap (option_or (option_map (λ q. [] ++ q) (later_from m (i + 1)))) (stop_behind-root t))
stop_behind-push (j ∷ p) i t m c h s =
    let x = if_some_value (at p) (slice_get (trees t.children) j) m h in
    stop_behind-cons t x.0 c j (p ++ i ∷ []) x.1 (at-push p i x.0 m c x.2 s)
    ∙ ap (λ o. option_or (option_map (λ q. j ∷ q) o) (later_from t (j + 1))) (stop_behind-push p i x.0 m c x.2 s)
    ∙ or_map j (option_map (λ q. p ++ q) (later_from m (i + 1))) (stop_behind x.0 p) (later_from t (j + 1))
    ∙ (λ y. option_or (map_twice p [] j (later_from m (i + 1)) y) (sym (stop_behind-cons t x.0 m j p x.1 x.2) y))

-- the later children, one after the other
later_block : (t c : Tree) (k : ℕ) → slice_get (trees t.children) k ≡ Some c → later_from t k ≡ option_or (option_map (λ p. k ∷ p) (find (λ q. is_solid c && is_there is_good (at q c)) (paths c))) (later_from t (k + 1))
later_block t c k s =
    let l = slice_get_within (trees t.children) k c s in
    let rest : drop k (trees t.children) ≡ c ∷ drop (k + 1) (trees t.children) =
    rw add-one (drop-cons (trees t.children) k c l) ∙ ap (λ d. d ∷ drop (k + 1) (trees t.children)) (get_or_from_slice_get (trees t.children) k c c s) in
    ap (λ ts. find (is_later t) (paths_from k (forest ts))) rest
    ∙ find-append (is_later t) (map (λ p. k ∷ p) (paths c)) (paths_from (k + 1) (forest (drop (k + 1) (trees t.children))))
    ∙ ap (λ o. option_or o (later_from t (k + 1)))
    (find-map (is_later t) (λ p. k ∷ p) (paths c) ∙ ap (λ (g : List ℕ → Bool). option_map (λ p. k ∷ p) (find g (paths c))) (λ x q. is_there is_solid (if_some (at []) (s x)) && is_there is_good (if_some (at q) (s x))))

pub later_solid : (t c : Tree) (k : ℕ) → slice_get (trees t.children) k ≡ Some c → is_solid c ≡ true → later_from t k ≡ option_or (option_map (λ p. k ∷ p) (first_path is_good c)) (later_from t (k + 1))
later_solid t c k s e =
    later_block t c k s ∙ ap (λ b. option_or (option_map (λ p. k ∷ p) (find (λ q. b && is_there is_good (at q c)) (paths c))) (later_from t (k + 1))) e

pub later_trivia : (t c : Tree) (k : ℕ) → slice_get (trees t.children) k ≡ Some c → is_solid c ≡ false → later_from t k ≡ later_from t (k + 1)
later_trivia t c k s e =
    later_block t c k s ∙ ap (λ b. option_or (option_map (λ p. k ∷ p) (find (λ q. b && is_there is_good (at q c)) (paths c))) (later_from t (k + 1))) e
    ∙ ap (λ o. option_or (option_map (λ p. k ∷ p) o) (later_from t (k + 1))) (find_none (λ q. false) (paths c) (λ q. refl))

-- a good leaf below a later child, and none there
pub later_hit : (p : Place) (n c : Tree) (start i : ℕ) (leaf : Place) → subtree p ≡ Some n → slice_get (trees n.children) i ≡ Some c → is_solid c ≡ true → later_from n start ≡ later_from n i → Some leaf ≡ found_below (first_path is_good) (child_place p i) → Some leaf ≡ found_below (λ t. later_from t start) p
later_hit p n c start i leaf h s solid sofar e =
    let x = below_hit (first_path is_good) p c i leaf (at-push p.path i p.root n c h s) e in
    let there : later_from n start ≡ Some (i ∷ x.0) = sofar ∙ later_solid n c i s solid ∙ ap (λ o. option_or (option_map (λ q. i ∷ q) o) (later_from n (i + 1))) x.1 in
    ap Some x.2 ∙ sym (found_at (λ t. later_from t start) p n (Some (i ∷ x.0)) h there)

pub later_miss : (p : Place) (n c : Tree) (start i : ℕ) → subtree p ≡ Some n → slice_get (trees n.children) i ≡ Some c → is_solid c ≡ true → later_from n start ≡ later_from n i → None ≡ found_below (first_path is_good) (child_place p i) → later_from n start ≡ later_from n (i + 1)
later_miss p n c start i h s solid sofar e =
    let x = below_miss (first_path is_good) p c i (at-push p.path i p.root n c h s) e in
    sofar ∙ later_solid n c i s solid ∙ ap (λ o. option_or (option_map (λ q. i ∷ q) o) (later_from n (i + 1))) x

-- the stop after a child is in a later sibling, or it is that after the parent
pub next_hit : (p : Place) (i : ℕ) (m c : Tree) (leaf : Place) → subtree p ≡ Some m → slice_get (trees m.children) i ≡ Some c → Some leaf ≡ found_below (λ t. later_from t (i + 1)) p → Some leaf ≡ elsewhere stop_behind (child_place p i)
next_hit p i m c leaf h s e = elim (option_cases (later_from m (i + 1))) [
  | inl absent ↦
      let bad : Some leaf ≡ None = e ∙ found_at (λ t. later_from t (i + 1)) p m None h absent in
      absurd (cc)
  | inr q ↦
      let here : Some leaf ≡ Some (below p q.0) = e ∙ found_at (λ t. later_from t (i + 1)) p m (Some q.0) h q.1 in
      let stop : stop_behind p.root (p.path ++ i ∷ []) ≡ Some (p.path ++ q.0) = stop_behind-push p.path i p.root m c h s ∙ ap (λ o. option_or (option_map (λ r. p.path ++ r) o) (stop_behind p.root p.path)) q.1 in
      here ∙ sym (ap (option_map (λ r. record { root = p.root; path = r })) stop)
]

pub next_miss : (p : Place) (i : ℕ) (m c : Tree) → subtree p ≡ Some m → slice_get (trees m.children) i ≡ Some c → None ≡ found_below (λ t. later_from t (i + 1)) p → elsewhere stop_behind p ≡ elsewhere stop_behind (child_place p i)
next_miss p i m c h s e = elim (option_cases (later_from m (i + 1))) [
  | inl absent ↦
      let stop : stop_behind p.root (p.path ++ i ∷ []) ≡ stop_behind p.root p.path = stop_behind-push p.path i p.root m c h s ∙ ap (λ o. option_or (option_map (λ r. p.path ++ r) o) (stop_behind p.root p.path)) absent in
      sym (ap (option_map (λ r. record { root = p.root; path = r })) stop)
  | inr q ↦
      let bad : None ≡ Some (below p q.0) = e ∙ found_at (λ t. later_from t (i + 1)) p m (Some q.0) h q.1 in
      absurd (cc)
]

pub root_stop : (p : Place) → p.path ≡ [] → None ≡ elsewhere stop_behind p
root_stop p e = sym (ap (option_map (λ r. record { root = p.root; path = r })) (ap (stop_behind p.root) e ∙ stop_behind-root p.root))

-- a node below a child's place has a parent
pub parent_there : (p : List ℕ) (i : ℕ) (t c : Tree) → at (p ++ i ∷ []) t ≡ Some c → (m : Tree) × (at p t ≡ Some m) × (slice_get (trees m.children) i ≡ Some c)
parent_there [] i t c h =
    let x = if_some_value (at []) (slice_get (trees t.children) i) c h in
    (t, refl, x.1 ∙ x.2)
parent_there (j ∷ p) i t c h =
    let x = if_some_value (at (p ++ i ∷ [])) (slice_get (trees t.children) j) c h in
    let rest = parent_there p i x.0 c x.2 in
    (rest.0, ap (if_some (at p)) x.1 ∙ rest.1, rest.2)
