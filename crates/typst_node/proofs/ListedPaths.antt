-- What is listed among a tree's paths, and what is listed before it.
use Rattle.std.proofs.Common.{◌≡◌, ℕ, suc, zero, ◌+◌, List, [], ◌∷◌, ◌++◌, map, take, Bool, true, false, refl, sym, ◌∙◌, ap, arith, append_assoc, eq-eqb}
use Rattle.std.specs.Prelude.{slice_get, None, Some, ◌||◌}
use Rattle.std.specs.List.{list_any, before_first}
use Rattle.std.proofs.lemmas.List.Folds.{list_any-append}
use Rattle.typst_node.specs.Tree.{Forest, none, tree, Tree, trees, forest}
use Rattle.typst_node.specs.Preorder.{paths, paths_from, at}
use Rattle.typst_node.specs.Text.{is_same_path}
use Rattle.typst_node.proofs.FirstThatPasses.{before-append_hit, before-append_miss, before-map}
use Rattle.typst_node.proofs.EqualPaths.{same_below, none_below, any_below}
use Rattle.typst_node.proofs.PathSteps.{if_some_value}

or_true : (a b : Bool) → a ≡ true → (a || b) ≡ true
or_true a b e = ap (λ c. c || b) e

or_second : (a b : Bool) → b ≡ true → (a || b) ≡ true
or_second true b e = refl
or_second false b e = e

-- what leads to a node is listed
pub listed_from : (k : ℕ) (f : Forest) (i : ℕ) (q : List ℕ) (c m : Tree) → slice_get (trees f) i ≡ Some c → at q c ≡ Some m → list_any (is_same_path ((k + i) ∷ q)) (paths_from k f) ≡ true
listed_from k none i q c m s h = absurd (let s : None ≡ Some c = s in cc)
listed_from k (tree l d r) zero [] c m s h =
    let first : is_same_path ((k + 0) ∷ []) (k ∷ []) ≡ true = rw (eq-eqb (k + 0) k (omega arith)) refl in
    or_true (is_same_path ((k + 0) ∷ []) (k ∷ [])) _ first
listed_from k (tree l d r) zero (j ∷ q) c m s h =
    let s : Some (record { label = l; children = d }) ≡ Some c = s in
    let same : d ≡ c.children = ap (λ (t : Tree). t.children) (let e : record { label = l; children = d } ≡ c = cc in e) in
    let x = if_some_value (at q) (slice_get (trees c.children) j) m h in
    let here = listed_from 0 d j q x.0 m (ap (λ (g : Forest). slice_get (trees g) j) same ∙ x.1) x.2 in
    let z : 0 + j ≡ j = omega arith in
    let inside : list_any (is_same_path (j ∷ q)) (paths_from 0 d) ≡ true = sym (ap (λ n. list_any (is_same_path (n ∷ q)) (paths_from 0 d)) z) ∙ here in
    let e : k + 0 ≡ k = omega arith in
    ap (λ n. list_any (is_same_path (n ∷ (j ∷ q))) (paths_from k (tree l d r))) e
    ∙ list_any-append (is_same_path (k ∷ (j ∷ q))) (map (λ p. k ∷ p) (paths (record { label = l; children = d }))) (paths_from (k + 1) r)
    ∙ or_true _ _ (any_below k (j ∷ q) (paths (record { label = l; children = d })) ∙ inside)
listed_from k (tree l d r) (suc i) q c m s h =
    let e : k + suc i ≡ k + 1 + i = omega arith in
    ap (λ n. list_any (is_same_path (n ∷ q)) (paths_from k (tree l d r))) e
    ∙ list_any-append (is_same_path ((k + 1 + i) ∷ q)) (map (λ p. k ∷ p) (paths (record { label = l; children = d }))) (paths_from (k + 1) r)
    ∙ or_second _ _ (listed_from (k + 1) r i q c m s h)

pub listed : (q : List ℕ) (t m : Tree) → at q t ≡ Some m → list_any (is_same_path q) (paths t) ≡ true
listed [] t m h = refl
listed (i ∷ q) t m h =
    let s = if_some_value (at q) (slice_get (trees t.children) i) m h in
    let z : 0 + i ≡ i = omega arith in
    sym (ap (λ j. list_any (is_same_path (j ∷ q)) (paths_from 0 t.children)) z) ∙ listed_from 0 t.children i q s.0 m s.1 s.2

-- what is listed before a path: the trees before its first step, and then what is listed before the rest
pub before_from : (k : ℕ) (f : Forest) (i : ℕ) (q : List ℕ) (c m : Tree) → slice_get (trees f) i ≡ Some c → at q c ≡ Some m →
    before_first (is_same_path ((k + i) ∷ q)) (paths_from k f) ≡ paths_from k (forest (take i (trees f))) ++ map (λ p. (k + i) ∷ p) (before_first (is_same_path q) (paths c))
before_from k none i q c m s h = absurd (let s : None ≡ Some c = s in cc)
before_from k (tree l d r) zero q c m s h =
    let s : Some (record { label = l; children = d }) ≡ Some c = s in
    let same : record { label = l; children = d } ≡ c = cc in
    let e : k + 0 ≡ k = omega arith in
    ap (λ n. before_first (is_same_path (n ∷ q)) (paths_from k (tree l d r))) e
    ∙ before-append_hit (is_same_path (k ∷ q)) (map (λ p. k ∷ p) (paths (record { label = l; children = d }))) (paths_from (k + 1) r) (any_below k q (paths (record { label = l; children = d })) ∙ ap (λ t. list_any (is_same_path q) (paths t)) same ∙ listed q c m h)
    ∙ before-map (is_same_path (k ∷ q)) (λ p. k ∷ p) (paths (record { label = l; children = d }))
    ∙ ap (λ (test : List ℕ → Bool). map (λ p. k ∷ p) (before_first test (paths (record { label = l; children = d })))) (λ x p. same_below k q p x)
    ∙ (λ x. map (λ p. e' x ∷ p) (before_first (is_same_path q) (paths (same x))))
  where
    e' : k ≡ k + 0
    e' = omega arith
before_from k (tree l d r) (suc i) q c m s h =
    let e : k + suc i ≡ k + 1 + i = omega arith in
    let apart : k + suc i ≡ k → ⊥ = λ bad. omega arith in
    let block = map (λ p. k ∷ p) (paths (record { label = l; children = d })) in
    before-append_miss (is_same_path ((k + suc i) ∷ q)) block (paths_from (k + 1) r) (none_below (k + suc i) k q (paths (record { label = l; children = d })) apart)
    ∙ ap (λ ps. block ++ ps) (ap (λ n. before_first (is_same_path (n ∷ q)) (paths_from (k + 1) r)) e
    ∙ before_from (k + 1) r i q c m s h
    ∙ ap (λ n. paths_from (k + 1) (forest (take i (trees r))) ++ map (λ p. n ∷ p) (before_first (is_same_path q) (paths c))) (sym e))
    ∙ sym (append_assoc block (paths_from (k + 1) (forest (take i (trees r)))) _)
