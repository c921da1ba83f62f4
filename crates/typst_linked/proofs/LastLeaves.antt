-- The last node without children.
use Rattle.std.proofs.Common.{◌≡◌, ℕ, zero, suc, ◌+◌, ◌-◌, ◌<◌, ◌≤◌, inl, inr, List, [], ◌∷◌, length, reverse, Bool, true, false, cond, Option, None, Some, refl, sym, ◌∙◌, ap, subst, arith, append_assoc, eq-eqb}
use Rattle.std.specs.Prelude.{slice_get, ◌==◌, IsSomeAnd}
use Rattle.std.specs.Option.{option_map, option_or, option_and_then}
use Rattle.std.proofs.lemmas.Bool.{eqb-true}
use Rattle.typst_node.specs.Tree.{Label, Forest, none, tree, Tree, trees}
use Rattle.typst_node.specs.Text.{text, offset}
use Rattle.typst_node.specs.Preorder.{paths, at}
use Rattle.typst_node.proofs.Offsets.{offset-cons, offset-root}
use Rattle.typst_node.proofs.PathsInPreorder.{path-in-paths}
use Rattle.typst_linked.specs.Place.{Place, subtree, below, child_place}
use Rattle.typst_linked.specs.Part.{begin_at, HasNoOwnText}
use Rattle.typst_linked.specs.Ranges.{begin_of}
use Rattle.typst_linked.specs.Search.{is_there, last_path, found_below}
use Rattle.typst_linked.specs.LeafAt.{reaches_cursor, covers_cursor, begins_at_cursor, least_end, is_childless, covering_leaf, last_leaf, leaf_path, leaf_place, CoversCursor}
use Rattle.typst_linked.specs.LeafLooks.{IsNextChild}
use Rattle.typst_linked.specs.declared.cursor.Side.{Side}
use Rattle.typst_linked.specs.declared.cursor.Side.TheVariants.{Before, After}
use Rattle.typst_linked.proofs.Covers.{child_begin, child_there}
use Rattle.typst_node.proofs.FirstThatPasses.{bool_cases}
use Rattle.typst_linked.proofs.Found.{option_cases, find_passes, is_there_value, last_there}
use Rattle.typst_linked.proofs.LeafCovers.{childless_true, covers_tells, covers_when, covering_none, offset-append, place_covers, text_within}
use Rattle.typst_linked.proofs.LeafWays.{some_and}
use Rattle.typst_linked.proofs.Searching.{found_at, below-nothing}
use Rattle.typst_node.proofs.PathSteps.{at-append}
use Rattle.typst_linked.proofs.Walks.{last_up, last_up-more, last_path-children, last_path-self}

pub begins_tells : (side : Side) (cursor begin : ℕ) → begins_at_cursor side cursor begin ≡ true → (side ≡ Before) × (begin ≡ cursor)
begins_tells Before cursor begin h = (refl, eqb-true begin cursor h)
begins_tells After cursor begin h = absurd (cc)

pub not_childless : (t : Tree) → (length (trees t.children) ≡ 0 → ⊥) → is_childless t ≡ false
not_childless t h = elim (bool_cases (is_childless t)) [
  | inl e ↦ absurd (h (eqb-true (length (trees t.children)) 0 e))
  | inr e ↦ e
]

-- each tree has a node without children
some_leaf : (l : Label) (f : Forest) → (q : List ℕ) × (m : Tree) × (at q (record { label = l; children = f }) ≡ Some m) × (is_childless m ≡ true)
some_leaf l none = ([], record { label = l; children = none }, refl, refl)
some_leaf l (tree k c r) =
    let x = some_leaf k c in
    (zero ∷ x.0, x.1, x.2, x.3)

-- so there is a last one
last_leaf_there : (t : Tree) → (q : List ℕ) × (m : Tree) × (last_path is_childless t ≡ Some q) × (at q t ≡ Some m)
last_leaf_there t =
    let test : List ℕ → Bool = λ path. is_there is_childless (at path t) in
    elim (option_cases (last_path is_childless t)) [
      | inr q ↦
          let k = is_there_value is_childless (at q.0 t) (find_passes test (reverse (paths t)) q.0 q.1) in
          (q.0, k.0, q.1, k.1)
      | inl nowhere ↦
          let x = some_leaf t.label t.children in
          let c = path-in-paths t x.0 x.1 x.2 in
          absurd (last_there test (paths t) c.0 x.0 c.1 c.2 (ap (is_there is_childless) x.2 ∙ x.3) nowhere)
    ]

-- it is that of the last child
last_child : (t c : Tree) (i : ℕ) → slice_get (trees t.children) i ≡ Some c → i + 1 ≡ length (trees t.children) →
    (q : List ℕ) × (m : Tree) × (last_path is_childless c ≡ Some q) × (at q c ≡ Some m) × (last_path is_childless t ≡ Some (i ∷ q))
last_child t c i s e =
    let x = last_leaf_there c in
    let inner = not_childless t (λ z. omega arith) in
    (x.0, x.1, x.2, x.3, last_path-children is_childless t (i + 1) inner e ∙ last_up-more is_childless t c i s ∙ ap (λ o. option_or (option_map (λ p. i ∷ p) o) (last_up is_childless t i)) x.2)

-- whether it is taken
abbrev taken : Side → ℕ → ℕ → Tree → List ℕ → Option (List ℕ)
taken side cursor begin t q = cond (begins_at_cursor side cursor (begin + offset q t)) (Some q) None

last_leaf-taken : (side : Side) (cursor begin : ℕ) (t : Tree) (q : List ℕ) → last_path is_childless t ≡ Some q → last_leaf side cursor begin t ≡ taken side cursor begin t q
last_leaf-taken side cursor begin t q h = ap (option_and_then (taken side cursor begin t)) h

-- a node without children is its own last one
pub last_self : (b : ℕ) (p : Place) (t : Tree) → subtree p ≡ Some t → trees t.children ≡ [] → Some p ≡ found_below (last_leaf Before b b) p
last_self b p t h bare =
    let here : begins_at_cursor Before b (b + offset [] t) ≡ true = eq-eqb (b + offset [] t) b (omega (arith, offset-root t)) in
    let there : last_leaf Before b b t ≡ Some [] = last_leaf-taken Before b b t [] (last_path-self is_childless t (childless_true t bare) bare) ∙ ap (λ c. cond c (Some []) None) here in
    ap Some (below-nothing p) ∙ sym (found_at (last_leaf Before b b) p t (Some []) h there)

-- where the last child begins with its parent it has the last one
pub last_on : (b i : ℕ) (p : Place) (t c : Tree) → subtree p ≡ Some t → HasNoOwnText t → slice_get (trees t.children) i ≡ Some c → i + 1 ≡ length (trees t.children) → begin_at (trees t.children) i ≡ 0 →
    found_below (last_leaf Before b b) (child_place p i) ≡ found_below (last_leaf Before b b) p
last_on b i p t c h bare s last z =
    let k = child_begin p t c i h bare s in
    let x = last_child t c i s last in
    let same : offset (i ∷ x.0) t ≡ offset x.0 c = omega (arith, offset-cons i x.0 t c x.1 s x.3, bare i c s, z) in
    let above = last_leaf-taken Before b b t (i ∷ x.0) x.4 ∙ ap (λ o. cond (begins_at_cursor Before b (b + o)) (Some (i ∷ x.0)) None) same in
    let under = last_leaf-taken Before b b c x.0 x.2 in
    elim (bool_cases (begins_at_cursor Before b (b + offset x.0 c))) [
      | inl e ↦
          found_at (last_leaf Before b b) (child_place p i) c (Some x.0) k.0 (under ∙ ap (λ d. cond d (Some x.0) None) e)
          ∙ (λ y. Some (record { root = p.root; path = append_assoc p.path (i ∷ []) x.0 y }))
          ∙ sym (found_at (last_leaf Before b b) p t (Some (i ∷ x.0)) h (above ∙ ap (λ d. cond d (Some (i ∷ x.0)) None) e))
      | inr e ↦
          found_at (last_leaf Before b b) (child_place p i) c None k.0 (under ∙ ap (λ d. cond d (Some x.0) None) e)
          ∙ sym (found_at (last_leaf Before b b) p t None h (above ∙ ap (λ d. cond d (Some (i ∷ x.0)) None) e))
    ]

not_same : (m n : ℕ) → (m ≡ n → ⊥) → (m == n) ≡ false
not_same m n h = elim (bool_cases (m == n)) [ inl e ↦ absurd (h (eqb-true m n e)) | inr e ↦ e ]

-- where the last child begins later there is none
pub last_late : (b i : ℕ) (p : Place) (t c : Tree) → subtree p ≡ Some t → slice_get (trees t.children) i ≡ Some c → i + 1 ≡ length (trees t.children) → 0 < begin_at (trees t.children) i →
    None ≡ found_below (last_leaf Before b b) p
last_late b i p t c h s last l =
    let x = last_child t c i s last in
    let out : begins_at_cursor Before b (b + offset (i ∷ x.0) t) ≡ false = not_same (b + offset (i ∷ x.0) t) b (λ e. omega (arith, offset-cons i x.0 t c x.1 s x.3)) in
    sym (found_at (last_leaf Before b b) p t None h (last_leaf-taken Before b b t (i ∷ x.0) x.4 ∙ ap (λ d. cond d (Some (i ∷ x.0)) None) out))

-- the search goes on at the last child
pub last_next : (i : ℕ) (p : Place) (t c : Tree) → subtree p ≡ Some t → HasNoOwnText t → slice_get (trees t.children) i ≡ Some c → i + 1 ≡ length (trees t.children) → begin_at (trees t.children) i ≡ 0 →
    (begin_of (child_place p i) ≡ begin_of p) × IsNextChild Before (begin_of p) p i
last_next i p t c h bare s last z =
    let k = child_begin p t c i h bare s in
    let e : begin_of (child_place p i) ≡ begin_of p = omega (arith, k.1, z) in (
      e,
      inr (record {
        begins = e;
        last = subst (λ (o : Option Tree). IsSomeAnd o (λ u. i + 1 ≡ length (trees u.children))) (sym h) last;
        uncovered = λ j cover.
            let d = some_and _ (subtree (child_place p j)) cover in
            let at_j : at (j ∷ []) t ≡ Some d.0 = sym (at-append p.path (j ∷ []) p.root t h) ∙ d.1 in
            let m = covers_tells Before (begin_of p) (begin_of (child_place p j)) (begin_of (child_place p j) + length (text d.0)) d.2 in
            omega (arith, m.0, offset-append p.path (j ∷ []) p.root t d.0 h at_j);
      }),
    )

-- ---- at the start

-- how the leaf at a cursor is chosen in a node with children
chosen : (side : Side) (cursor begin : ℕ) (t : Tree) → is_childless t ≡ false → covers_cursor side cursor begin (begin + length (text t)) ≡ false → leaf_path side cursor begin t ≡ last_leaf side cursor begin t
chosen side cursor begin t inner out =
    ap (λ b. cond b (cond (reaches_cursor side cursor (begin + length (text t))) (Some []) None) (option_or (covering_leaf side cursor begin t) (last_leaf side cursor begin t))) inner
    ∙ ap (λ o. option_or o (last_leaf side cursor begin t)) (covering_none side cursor begin t out)

-- the last one is chosen where the node begins at the cursor
pub leaf_last : (side : Side) (cursor : ℕ) (p q : Place) (t : Tree) → q ≡ p → subtree p ≡ Some t → is_childless t ≡ false → covers_cursor side cursor (begin_of p) (begin_of p + length (text t)) ≡ false →
    begins_at_cursor side cursor (begin_of p) ≡ true → found_below (last_leaf Before (begin_of q) (begin_of q)) q ≡ leaf_place side cursor p
leaf_last side cursor p q t e h inner out begins =
    let b = begins_tells side cursor (begin_of p) begins in
    ap (λ (r : Place). found_below (last_leaf Before (begin_of r) (begin_of r)) r) e
    ∙ found_at (last_leaf Before (begin_of p) (begin_of p)) p t (last_leaf Before (begin_of p) (begin_of p) t) h refl
    ∙ ap (λ n. option_map (below p) (last_leaf Before n (begin_of p) t)) b.1
    ∙ ap (λ s. option_map (below p) (last_leaf s cursor (begin_of p) t)) (sym b.0)
    ∙ sym (found_at (leaf_path side cursor (begin_of p)) p t (last_leaf side cursor (begin_of p) t) h (chosen side cursor (begin_of p) t inner out))

-- there is none where the node neither covers the cursor nor begins there
pub leaf_none : (side : Side) (cursor : ℕ) (p : Place) (t : Tree) → subtree p ≡ Some t → is_childless t ≡ false → covers_cursor side cursor (begin_of p) (begin_of p + length (text t)) ≡ false →
    begins_at_cursor side cursor (begin_of p) ≡ false → None ≡ leaf_place side cursor p
leaf_none side cursor p t h inner out begins =
    let x = last_leaf_there t in
    let apart : begins_at_cursor side cursor (begin_of p + offset x.0 t) ≡ false = later side cursor (begin_of p) (offset x.0 t) (length (text t)) (omega (arith, text_within x.0 t x.1 x.3)) out begins in
    sym (found_at (leaf_path side cursor (begin_of p)) p t None h (chosen side cursor (begin_of p) t inner out
    ∙ last_leaf-taken side cursor (begin_of p) t x.0 x.2
    ∙ ap (λ d. cond d (Some x.0) None) apart))
  where
    later : (side : Side) (cursor b o n : ℕ) → o ≤ n → covers_cursor side cursor b (b + n) ≡ false → begins_at_cursor side cursor b ≡ false → begins_at_cursor side cursor (b + o) ≡ false
    later After cursor b o n l out begins = refl
    later Before cursor b o n l out begins = elim (bool_cases (begins_at_cursor Before cursor (b + o))) [
      | inr e ↦ e
      | inl e ↦
          let same = eqb-true (b + o) cursor e in
          elim (bool_cases (begins_at_cursor Before cursor (b + zero))) [
            | inl f ↦
                let at_once = eqb-true (b + zero) cursor f in
                let bad : true ≡ false = sym (eq-eqb b cursor (omega arith)) ∙ begins in
                absurd (cc)
            | inr f ↦ absurd (no_cover cursor b o n l same out f)
          ]
    ]
      where
        no_cover : (cursor b o n : ℕ) → o ≤ n → b + o ≡ cursor → covers_cursor Before cursor b (b + n) ≡ false → ((b + zero) == cursor) ≡ false → ⊥
        no_cover cursor b zero n l same out f =
            let bad : true ≡ false = sym (eq-eqb (b + zero) cursor same) ∙ f in
            cc
        no_cover cursor b (suc o) n l same out f =
            let bad : true ≡ false = sym (covers_when Before cursor b (b + n) (omega arith) (omega arith)) ∙ out in
            cc

-- what was found by its begin doesn't cover the cursor
pub last_uncovered : (side : Side) (cursor : ℕ) (p q found : Place) (t : Tree) → q ≡ p → subtree p ≡ Some t → begins_at_cursor side cursor (begin_of p) ≡ true → Some found ≡ found_below (last_leaf Before (begin_of q) (begin_of q)) q → CoversCursor side cursor found → ⊥
last_uncovered side cursor p q found t e h begins is cover =
    let b = begins_tells side cursor (begin_of p) begins in
    let x = last_leaf_there t in
    let is_p : Some found ≡ found_below (last_leaf Before (begin_of p) (begin_of p)) p = is ∙ ap (λ (r : Place). found_below (last_leaf Before (begin_of r) (begin_of r)) r) e in
    elim (bool_cases (begins_at_cursor Before (begin_of p) (begin_of p + offset x.0 t))) [
      | inr f ↦
          let bad : Some found ≡ None = is_p ∙ found_at (last_leaf Before (begin_of p) (begin_of p)) p t None h (last_leaf-taken Before (begin_of p) (begin_of p) t x.0 x.2 ∙ ap (λ d. cond d (Some x.0) None) f) in
          absurd (cc)
      | inl f ↦
          let hit : Some found ≡ Some (below p x.0) = is_p ∙ found_at (last_leaf Before (begin_of p) (begin_of p)) p t (Some x.0) h (last_leaf-taken Before (begin_of p) (begin_of p) t x.0 x.2 ∙ ap (λ d. cond d (Some x.0) None) f) in
          let place : found ≡ below p x.0 = cc in
          let begin : begin_of found ≡ begin_of p + offset x.0 t = ap begin_of place ∙ offset-append p.path x.0 p.root t x.1 h x.3 in
          let same = eqb-true (begin_of p + offset x.0 t) (begin_of p) f in
          let d = some_and _ (subtree found) cover in
          let m = covers_tells side cursor (begin_of found) (begin_of found + length (text d.0)) d.2 in
          let least : least_end side cursor ≡ cursor = ap (λ s. least_end s cursor) b.0 in
          omega (arith, m.0, least, same, begin, b.1)
    ]

pub empty_list : (ts : List Tree) → length ts ≡ 0 → ts ≡ []
empty_list [] e = refl
empty_list (t ∷ ts) e = absurd (omega arith)

-- the last tree of some
pub last_there_is : (ts : List Tree) → (length ts ≡ 0 → ⊥) → (i : ℕ) × (c : Tree) × (slice_get ts i ≡ Some c) × (i + 1 ≡ length ts)
last_there_is ts h =
    let c = child_there ts (length ts - 1) (omega arith) in
    (length ts - 1, c.0, c.1, omega arith)

-- where a node begins it covers nothing before that
pub start_uncovered : (p : Place) (t : Tree) → subtree p ≡ Some t → CoversCursor Before (begin_of p) p → ⊥
start_uncovered p t h cover =
    let own = covers_tells Before (begin_of p) (begin_of p) (begin_of p + length (text t)) (place_covers Before (begin_of p) p t h cover) in
    omega (arith, own.0)
