-- Which node without children covers a cursor.
use Rattle.std.proofs.Common.{◌≡◌, ℕ, ◌+◌, ◌<◌, ◌≤◌, inl, inr, List, [], ◌∷◌, ◌++◌, length, take, Bool, true, false, Option, None, Some, refl, sym, ◌∙◌, ap, subst, arith}
use Rattle.std.specs.Prelude.{slice_get, nat_lt, nat_le, ◌&&◌, ◌==◌, IsSomeAnd, IsTrue}
use Rattle.std.specs.List.{list_any}
use Rattle.std.proofs.lemmas.Bool.{cases_order, eqb-true}
use Rattle.std.proofs.lemmas.Bool.Decides.{nat_tests}
use Rattle.std.proofs.lemmas.List.Folds.{list_any-from_Any}
use Rattle.typst_node.specs.Tree.{Tree, trees}
use Rattle.typst_node.specs.Text.{own_text, text, text_of_all, offset}
use Rattle.typst_node.specs.Preorder.{paths, at}
use Rattle.typst_node.proofs.Offsets.{offset-cons, offset-root, length-text, text_of_all-more, text_of_all-take}
use Rattle.typst_node.proofs.PathsInPreorder.{path-in-paths}
use Rattle.typst_linked.specs.Place.{Place, subtree}
use Rattle.typst_linked.specs.Ranges.{begin_of}
use Rattle.typst_linked.specs.Search.{is_there}
use Rattle.typst_linked.specs.LeafAt.{covers_cursor, least_end, is_childless, is_covering_leaf, covering_leaf, CoversCursor}
use Rattle.typst_linked.specs.declared.cursor.Side.{Side}
use Rattle.typst_linked.specs.declared.cursor.Side.TheVariants.{Before, After}
use Rattle.typst_linked.proofs.Covers.{begin_at-le}
use Rattle.typst_node.proofs.FirstThatPasses.{bool_cases}
use Rattle.typst_linked.proofs.Found.{find_none, find_only, is_there_value}
use Rattle.typst_node.proofs.PathSteps.{if_some_value, at-append}

-- ---- tests

pub both_true : (a b : Bool) → (a && b) ≡ true → (a ≡ true) × (b ≡ true)
both_true true b h = (refl, h)
both_true false b h = absurd (cc)

pub lt_true : (m n : ℕ) → nat_lt m n ≡ true → m < n
lt_true m n h = grind (arith, nat_tests)

pub le_true : (m n : ℕ) → nat_le m n ≡ true → m ≤ n
le_true m n h = grind (arith, nat_tests)

pub true_lt : (m n : ℕ) → m < n → nat_lt m n ≡ true
true_lt m n h = grind (arith, nat_tests)

pub true_le : (m n : ℕ) → m ≤ n → nat_le m n ≡ true
true_le m n h = grind (arith, nat_tests)

and_true : (a b : Bool) → a ≡ true → b ≡ true → (a && b) ≡ true
and_true a b p q = rw (p, q) refl

-- what it means to cover a cursor
pub covers_tells : (side : Side) (cursor begin end : ℕ) → covers_cursor side cursor begin end ≡ true → (begin < least_end side cursor) × (least_end side cursor ≤ end)
covers_tells Before cursor begin end h =
    let k = both_true (nat_lt begin cursor) (nat_le cursor end) h in
    (lt_true begin cursor k.0, le_true cursor end k.1)
covers_tells After cursor begin end h =
    let k = both_true (nat_le begin cursor) (nat_lt cursor end) h in
    let l = le_true begin cursor k.0 in
    let m = lt_true cursor end k.1 in
    (omega arith, omega arith)

pub covers_when : (side : Side) (cursor begin end : ℕ) → begin < least_end side cursor → least_end side cursor ≤ end → covers_cursor side cursor begin end ≡ true
covers_when Before cursor begin end l m = and_true (nat_lt begin cursor) (nat_le cursor end) (true_lt begin cursor l) (true_le cursor end m)
covers_when After cursor begin end l m = and_true (nat_le begin cursor) (nat_lt cursor end) (true_le begin cursor (omega arith)) (true_lt cursor end (omega arith))

-- ---- the texts of nodes lie in one another, or apart

-- a node's text lies in that of the tree
pub text_within : (q : List ℕ) (t m : Tree) → at q t ≡ Some m → offset q t + length (text m) ≤ length (text t)
text_within [] t m h =
    let h : Some t ≡ Some m = h in
    let same : t ≡ m = cc in
    let e : length (text t) ≡ length (text m) = ap (λ (u : Tree). length (text u)) same in
    omega (arith, offset-root t)
text_within (i ∷ q) t m h =
    let x = if_some_value (at q) (slice_get (trees t.children) i) m h in
    omega (arith, offset-cons i q t x.0 m x.1 x.2, text_within q x.0 m x.2, text_of_all-more (trees t.children) i x.0 x.1, text_of_all-take (trees t.children) (i + 1), length-text t)

-- two nodes below children of which the first comes before the second
apart : (i j : ℕ) (p q : List ℕ) (t c d m n : Tree) → i < j → slice_get (trees t.children) i ≡ Some c → slice_get (trees t.children) j ≡ Some d → at p c ≡ Some m → at q d ≡ Some n →
    offset (i ∷ p) t + length (text m) ≤ offset (j ∷ q) t
apart i j p q t c d m n l sc sd hc hd =
    omega (arith, offset-cons i p t c m sc hc, offset-cons j q t d n sd hd, text_within p c m hc, text_of_all-more (trees t.children) i c sc, begin_at-le (trees t.children) (i + 1) j (omega arith))

no_child : (t c : Tree) (i : ℕ) → trees t.children ≡ [] → slice_get (trees t.children) i ≡ Some c → ⊥
no_child t c i e s =
    let bad : None ≡ Some c = ap (λ (ts : List Tree). slice_get ts i) (sym e) ∙ s in
    cc

-- one node without children at most has a byte
pub one_leaf : (goal begin : ℕ) (p q : List ℕ) (t m n : Tree) → at p t ≡ Some m → at q t ≡ Some n → trees m.children ≡ [] → trees n.children ≡ [] →
    begin + offset p t < goal → goal ≤ begin + offset p t + length (text m) → begin + offset q t < goal → goal ≤ begin + offset q t + length (text n) → p ≡ q
one_leaf goal begin [] [] t m n hp hq bp bq pl ph ql qh = refl
one_leaf goal begin [] (j ∷ q) t m n hp hq bp bq pl ph ql qh =
    let hp : Some t ≡ Some m = hp in
    let same : t ≡ m = cc in
    let y = if_some_value (at q) (slice_get (trees t.children) j) n hq in
    absurd (no_child t y.0 j (ap (λ (u : Tree). trees u.children) same ∙ bp) y.1)
one_leaf goal begin (i ∷ p) [] t m n hp hq bp bq pl ph ql qh =
    let hq : Some t ≡ Some n = hq in
    let same : t ≡ n = cc in
    let x = if_some_value (at p) (slice_get (trees t.children) i) m hp in
    absurd (no_child t x.0 i (ap (λ (u : Tree). trees u.children) same ∙ bq) x.1)
one_leaf goal begin (i ∷ p) (j ∷ q) t m n hp hq bp bq pl ph ql qh =
    let x = if_some_value (at p) (slice_get (trees t.children) i) m hp in
    let y = if_some_value (at q) (slice_get (trees t.children) j) n hq in
    elim (cases_order i j) [
      | inl same ↦
          let both : Some x.0 ≡ Some y.0 = sym x.1 ∙ ap (slice_get (trees t.children)) same ∙ y.1 in
          let one : y.0 ≡ x.0 = cc in
          let there : at q x.0 ≡ Some n = ap (at q) (sym one) ∙ y.2 in
          let at_i : slice_get (trees t.children) j ≡ Some x.0 = ap (slice_get (trees t.children)) (sym same) ∙ x.1 in
          let a = offset-cons i p t x.0 m x.1 x.2 in
          let b = offset-cons j q t x.0 n at_i there in
          let e : length (text_of_all (take i (trees t.children))) ≡ length (text_of_all (take j (trees t.children))) = ap (λ k. length (text_of_all (take k (trees t.children)))) same in
          let inside = one_leaf goal (begin + length (own_text t.label) + length (text_of_all (take i (trees t.children)))) p q x.0 m n x.2 there bp bq (omega arith) (omega arith) (omega arith) (omega arith) in
          λ z. same z ∷ inside z
      | inr r ↦ elim r [
        | inl l ↦ absurd (omega (arith, apart i j p q t x.0 y.0 m n l x.1 y.1 x.2 y.2))
        | inr l ↦ absurd (omega (arith, apart j i q p t y.0 x.0 n m l y.1 x.1 y.2 x.2))
      ]
    ]

-- ---- the search of the list of paths

any_listed : (test : List ℕ → Bool) (t m : Tree) (q : List ℕ) → at q t ≡ Some m → test q ≡ true → list_any test (paths t) ≡ true
any_listed test t m q e h =
    let c = path-in-paths t q m e in
    list_any-from_Any test (paths t) (c.0, q, c.1, c.2, h)

pub childless_true : (t : Tree) → trees t.children ≡ [] → is_childless t ≡ true
childless_true t e = ap (λ (ts : List Tree). length ts == 0) e

pub true_childless : (t : Tree) → is_childless t ≡ true → trees t.children ≡ []
true_childless t h = empty (trees t.children) (eqb-true (length (trees t.children)) 0 h)
  where
    empty : (ts : List Tree) → length ts ≡ 0 → ts ≡ []
    empty [] e = refl
    empty (u ∷ ts) e = absurd (omega arith)

-- what the test of a path tells
covering_tells : (side : Side) (cursor begin : ℕ) (t : Tree) (q : List ℕ) → is_covering_leaf side cursor begin t q ≡ true →
    (m : Tree) × (at q t ≡ Some m) × (trees m.children ≡ []) × (begin + offset q t < least_end side cursor) × (least_end side cursor ≤ begin + offset q t + length (text m))
covering_tells side cursor begin t q h =
    let k = is_there_value (λ leaf. is_childless leaf && covers_cursor side cursor (begin + offset q t) (begin + offset q t + length (text leaf))) (at q t) h in
    let b = both_true (is_childless k.0) (covers_cursor side cursor (begin + offset q t) (begin + offset q t + length (text k.0))) k.2 in
    let c = covers_tells side cursor (begin + offset q t) (begin + offset q t + length (text k.0)) b.1 in
    (k.0, k.1, true_childless k.0 b.0, c.0, c.1)

-- a node without children that covers the cursor is found
pub covering_is : (side : Side) (cursor begin : ℕ) (t m : Tree) (q : List ℕ) → at q t ≡ Some m → trees m.children ≡ [] → covers_cursor side cursor (begin + offset q t) (begin + offset q t + length (text m)) ≡ true →
    covering_leaf side cursor begin t ≡ Some q
covering_is side cursor begin t m q h bare covers =
    let here : is_covering_leaf side cursor begin t q ≡ true =
    ap (is_there (λ leaf. is_childless leaf && covers_cursor side cursor (begin + offset q t) (begin + offset q t + length (text leaf)))) h ∙ and_true (is_childless m) _ (childless_true m bare) covers in
    let c = covers_tells side cursor (begin + offset q t) (begin + offset q t + length (text m)) covers in
    find_only (is_covering_leaf side cursor begin t) (paths t) q (any_listed (is_covering_leaf side cursor begin t) t m q h here) (λ p there.
    let k = covering_tells side cursor begin t p there in
    one_leaf (least_end side cursor) begin p q t k.0 m k.1 h k.2 bare k.3 k.4 c.0 c.1)

-- none is found where the tree's text doesn't cover the cursor
pub covering_none : (side : Side) (cursor begin : ℕ) (t : Tree) → covers_cursor side cursor begin (begin + length (text t)) ≡ false → covering_leaf side cursor begin t ≡ None
covering_none side cursor begin t out = find_none (is_covering_leaf side cursor begin t) (paths t) (λ q. elim (bool_cases (is_covering_leaf side cursor begin t q)) [
  | inr e ↦ e
  | inl e ↦
      let k = covering_tells side cursor begin t q e in
      let w = text_within q t k.0 k.1 in
      let bad : true ≡ false = sym (covers_when side cursor begin (begin + length (text t)) (omega (arith, k.3)) (omega (arith, k.4))) ∙ out in
      absurd (cc)
])

-- what it means for a place to cover a cursor
pub place_covers : (side : Side) (cursor : ℕ) (p : Place) (t : Tree) → subtree p ≡ Some t → CoversCursor side cursor p → covers_cursor side cursor (begin_of p) (begin_of p + length (text t)) ≡ true
place_covers side cursor p t h k = subst (λ (o : Option Tree). IsSomeAnd o (λ u. IsTrue (covers_cursor side cursor (begin_of p) (begin_of p + length (text u))))) h k

pub covers_place : (side : Side) (cursor : ℕ) (p : Place) (t : Tree) → subtree p ≡ Some t → covers_cursor side cursor (begin_of p) (begin_of p + length (text t)) ≡ true → CoversCursor side cursor p
covers_place side cursor p t h k = subst (λ (o : Option Tree). IsSomeAnd o (λ u. IsTrue (covers_cursor side cursor (begin_of p) (begin_of p + length (text u))))) (sym h) k

-- an offset below a place
pub offset-append : (p q : List ℕ) (t m n : Tree) → at p t ≡ Some m → at q m ≡ Some n → offset (p ++ q) t ≡ offset p t + offset q m
offset-append [] q t m n h k =
    let h : Some t ≡ Some m = h in
    let same : t ≡ m = cc in
    let e : offset q t ≡ offset q m = ap (offset q) same in
    omega (arith, offset-root t)
offset-append (i ∷ p) q t m n h k =
    let x = if_some_value (at p) (slice_get (trees t.children) i) m h in
    omega (arith, offset-cons i (p ++ q) t x.0 n x.1 (at-append p q x.0 m x.2 ∙ k), offset-cons i p t x.0 m x.1 x.2, offset-append p q x.0 m n x.2 k)
