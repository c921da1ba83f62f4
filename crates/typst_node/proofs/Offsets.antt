-- Where the text of a node begins, one step at a time.
use Rattle.std.proofs.Common.{◌≡◌, ℕ, suc, zero, ◌+◌, ◌≤◌, List, [], ◌∷◌, ◌++◌, length, map, take, refl, sym, ap, ◌∙◌, arith, add-one, Option, None, Some, slice_get, length-append}
use Rattle.std.specs.List.{flat_map, before_first}
use Rattle.std.proofs.lemmas.List.Folds.{flat_map-map}
use Rattle.std.proofs.lemmas.Grind.{flat_map-append}
use Rattle.typst_node.specs.Tree.{Forest, none, tree, Tree, trees}
use Rattle.typst_node.specs.Preorder.{preorder, paths_from, paths, subtrees, at, if_some}
use Rattle.typst_node.specs.Text.{own_text, joined, text, text_of_all, is_same_path, text_there, offset}
use Rattle.typst_node.proofs.Trees.{forest-trees, length-text_of_all-cons}
use Rattle.typst_node.proofs.PathsInPreorder.{at_among, at-among, StandFrom, stand_first, stand_rest, at-paths, labels-subtrees}
use Rattle.typst_node.proofs.FirstThatPasses.{before-miss, before-append_hit, before-append_miss, before-map}
use Rattle.typst_node.proofs.EqualPaths.{same_below, none_below, any_below}
use Rattle.typst_node.proofs.PathSteps.{if_some_value, at-push}
use Rattle.typst_node.proofs.ListedPaths.{listed}

-- the texts at all paths are the text
texts_at : (t : Tree) → flat_map (λ q. text_there (at q t)) (paths t) ≡ text t
texts_at t =
    sym (flat_map-map text_there (λ q. at q t) (paths t))
    ∙ (ap (flat_map text_there) (at-paths t) ∙ (flat_map-map text_there Some (subtrees t) ∙ (sym (flat_map-map own_text (λ (s : Tree). s.label) (subtrees t)) ∙ ap (flat_map own_text) (labels-subtrees t))))

-- the texts before a path that goes on below a node with this index are those before the rest of the path below the node
before_here : (d : Option Tree) (ts : List Tree) (i : ℕ) (t : Tree) (path : List ℕ) (s : Tree) (rest : List (List ℕ)) → slice_get ts i ≡ Some t → at path t ≡ Some s
    → length (flat_map (λ q. text_there (at_among d ts q)) (before_first (is_same_path (i ∷ path)) (map (λ q. i ∷ q) (paths t) ++ rest))) ≡ offset path t
before_here d ts i t path s rest there leads =
    let texts : List (List ℕ) → List ℕ = flat_map (λ q. text_there (at_among d ts q)) in
    let first : before_first (is_same_path (i ∷ path)) (map (λ q. i ∷ q) (paths t) ++ rest) ≡ map (λ q. i ∷ q) (before_first (is_same_path path) (paths t)) =
    before-append_hit (is_same_path (i ∷ path)) (map (λ q. i ∷ q) (paths t)) rest (any_below i path (paths t) ∙ listed path t s leads)
    ∙ (before-map (is_same_path (i ∷ path)) (λ q. i ∷ q) (paths t) ∙ (λ k. map (λ q. i ∷ q) (before_first (λ q. same_below i path q k) (paths t)))) in
    ap (λ qs. length (texts qs)) first
    ∙ (ap length (flat_map-map (λ q. text_there (at_among d ts q)) (λ q. i ∷ q) (before_first (is_same_path path) (paths t)))
    ∙ (λ k. length (flat_map (λ q. text_there (if_some (at q) (there k))) (before_first (is_same_path path) (paths t)))))

before_among : (d : Option Tree) (ts : List Tree) (i j : ℕ) (f : Forest) (path : List ℕ) (t s : Tree) → StandFrom ts i f → slice_get (trees f) j ≡ Some t → at path t ≡ Some s
    → length (flat_map (λ q. text_there (at_among d ts q)) (before_first (is_same_path ((i + j) ∷ path)) (paths_from i f))) ≡ length (text_of_all (take j (trees f))) + offset path t
before_among d ts i j none path t s stand there leads = cc
before_among d ts i zero (tree l c r) path t s stand there leads =
    let x : Tree = record { label = l; children = c } in
    let same : x ≡ t = cc in
    let place : i + zero ≡ i = omega arith in
    ap (λ k. length (flat_map (λ q. text_there (at_among d ts q)) (before_first (is_same_path (k ∷ path)) (paths_from i (tree l c r))))) place
    ∙ (before_here d ts i x path s (paths_from (i + 1) r) (stand_first ts i l c r stand) (ap (at path) same ∙ leads) ∙ (ap (offset path) same ∙ (let e : offset path t ≡ 0 + offset path t = omega arith in e)))
before_among d ts i (suc j) (tree l c r) path t s stand there leads =
    let x : Tree = record { label = l; children = c } in
    let texts : List (List ℕ) → List ℕ = flat_map (λ q. text_there (at_among d ts q)) in
    let block : List (List ℕ) = map (λ q. i ∷ q) (paths x) in
    let place : i + suc j ≡ (i + 1) + j = omega arith in
    let later : before_first (is_same_path ((i + suc j) ∷ path)) (block ++ paths_from (i + 1) r) ≡ block ++ before_first (is_same_path (((i + 1) + j) ∷ path)) (paths_from (i + 1) r) =
    before-append_miss (is_same_path ((i + suc j) ∷ path)) block (paths_from (i + 1) r) (none_below (i + suc j) i path (paths x) (λ e. omega (arith, e)))
    ∙ ap (λ k. block ++ before_first (is_same_path (k ∷ path)) (paths_from (i + 1) r)) place in
    let first : texts block ≡ text x =
    flat_map-map (λ q. text_there (at_among d ts q)) (λ q. i ∷ q) (paths x)
    ∙ ((λ k. flat_map (λ q. text_there (if_some (at q) (stand_first ts i l c r stand k))) (paths x)) ∙ texts_at x) in
    let rest = before_among d ts (i + 1) j r path t s (stand_rest ts i l c r stand) there leads in
    ap (λ qs. length (texts qs)) later
    ∙ (ap length (flat_map-append (λ q. text_there (at_among d ts q)) block (before_first (is_same_path (((i + 1) + j) ∷ path)) (paths_from (i + 1) r)))
    ∙ (length-append (texts block) (texts (before_first (is_same_path (((i + 1) + j) ∷ path)) (paths_from (i + 1) r)))
    ∙ omega (arith, ap length first, rest, length-text_of_all-cons x (take j (trees r)))))

-- The offset of a path that goes on below child i: the node's own text, the children before, and the offset below the child.
pub offset-cons : (i : ℕ) (path : List ℕ) (t child s : Tree) → slice_get (trees t.children) i ≡ Some child → at path child ≡ Some s
    → offset (i ∷ path) t ≡ length (own_text t.label) + length (text_of_all (take i (trees t.children))) + offset path child
offset-cons i path t child s there leads =
    let ts = trees t.children in
    let zeros : 0 + i ≡ i = omega arith in
    let before : length (flat_map (λ q. text_there (at_among (Some t) ts q)) (before_first (is_same_path (i ∷ path)) (paths_from 0 t.children))) ≡ length (text_of_all (take i ts)) + offset path child =
    ap (λ k. length (flat_map (λ q. text_there (at_among (Some t) ts q)) (before_first (is_same_path (k ∷ path)) (paths_from 0 t.children)))) (sym zeros)
    ∙ before_among (Some t) ts 0 i t.children path child s (λ j. ap (slice_get ts) (let e : 0 + j ≡ j = omega arith in e)) there leads in
    let first : before_first (is_same_path (i ∷ path)) (paths t) ≡ [] ∷ before_first (is_same_path (i ∷ path)) (paths_from 0 t.children) = before-miss (is_same_path (i ∷ path)) [] (paths_from 0 t.children) refl in
    let rest = before_first (is_same_path (i ∷ path)) (paths_from 0 t.children) in
    let below : length (flat_map (λ q. text_there (at q t)) rest) ≡ length (flat_map (λ q. text_there (at_among (Some t) ts q)) rest) = (λ k. length (flat_map (λ q. text_there (at-among t q k)) rest)) in
    ap (λ qs. length (flat_map (λ q. text_there (at q t)) qs)) first
    ∙ (length-append (own_text t.label) (flat_map (λ q. text_there (at q t)) rest) ∙ omega (arith, before, below))

-- the root's text begins at 0
pub offset-root : (t : Tree) → offset [] t ≡ 0
offset-root t = refl

-- what comes before a child of the root
offset_child : (i : ℕ) (t c : Tree) → slice_get (trees t.children) i ≡ Some c → offset (i ∷ []) t ≡ length (own_text t.label) + length (text_of_all (take i (trees t.children)))
offset_child i t c s = omega (arith, offset-cons i [] t c c s refl, offset-root c)

-- one step more
pub offset-push : (p : List ℕ) (i : ℕ) (t m c : Tree) → at p t ≡ Some m → slice_get (trees m.children) i ≡ Some c →
    offset (p ++ i ∷ []) t ≡ offset p t + (length (own_text m.label) + length (text_of_all (take i (trees m.children))))
offset-push [] i t m c h s =
    let h : Some t ≡ Some m = h in
    let same : t ≡ m = cc in
    let back : slice_get (trees t.children) i ≡ Some c = ap (λ (u : Tree). slice_get (trees u.children) i) same ∙ s in
    let e : length (own_text t.label) + length (text_of_all (take i (trees t.children))) ≡ length (own_text m.label) + length (text_of_all (take i (trees m.children))) =
    ap (λ (u : Tree). length (own_text u.label) + length (text_of_all (take i (trees u.children)))) same in
    omega (arith, offset_child i t c back, offset-root t)
offset-push (j ∷ p) i t m c h s =
    let x = if_some_value (at p) (slice_get (trees t.children) j) m h in
    omega (arith, offset-cons j (p ++ i ∷ []) t x.0 c x.1 (at-push p i x.0 m c x.2 s), offset-cons j p t x.0 m x.1 x.2, offset-push p i x.0 m c x.2 s)

-- the length of a node's text
pub length-text : (t : Tree) → length (text t) ≡ length (own_text t.label) + length (text_of_all (trees t.children))
length-text t = length-append (own_text t.label) (joined (preorder t.children)) ∙ ap (λ (f : Forest). length (own_text t.label) + length (joined (preorder f))) (sym (forest-trees t.children))

-- where the text of a child ends
pub text_of_all-more : (ts : List Tree) (i : ℕ) (c : Tree) → slice_get ts i ≡ Some c → length (text_of_all (take (i + 1) ts)) ≡ length (text_of_all (take i ts)) + length (text c)
text_of_all-more [] i c s = absurd (let s : None ≡ Some c = s in cc)
text_of_all-more (t ∷ ts) zero c s =
    let s : Some t ≡ Some c = s in
    let same : t ≡ c = cc in
    let e : length (text t) ≡ length (text c) = ap (λ (u : Tree). length (text u)) same in
    omega (arith, length-text_of_all-cons t [])
text_of_all-more (t ∷ ts) (suc i) c s =
    rw add-one (omega (arith, length-text_of_all-cons t (take (suc i) ts), length-text_of_all-cons t (take i ts), rw add-one at (text_of_all-more ts i c s)))

-- no part is longer than the whole
pub text_of_all-take : (ts : List Tree) (i : ℕ) → length (text_of_all (take i ts)) ≤ length (text_of_all ts)
text_of_all-take ts zero = omega arith
text_of_all-take [] (suc i) = omega arith
text_of_all-take (t ∷ ts) (suc i) = omega (arith, length-text_of_all-cons t (take i ts), length-text_of_all-cons t ts, text_of_all-take ts i)
