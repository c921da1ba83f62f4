-- A search of the leaf that covers a cursor, on its way down.
use Rattle.std.proofs.Common.{◌≡◌, ℕ, ◌+◌, ◌-◌, ◌<◌, ◌≤◌, inl, inr, List, [], ◌∷◌, length, take, true, false, cond, Option, None, Some, refl, sym, ◌∙◌, ap, subst, append_assoc, arith}
use Rattle.std.specs.Prelude.{slice_get, IsSomeAnd}
use Rattle.std.specs.Option.{option_or}
use Rattle.std.proofs.lemmas.Bool.{cases_order}
use Rattle.typst_node.specs.Tree.{Tree, trees}
use Rattle.typst_node.specs.Text.{text, text_of_all, offset}
use Rattle.typst_node.specs.Preorder.{at}
use Rattle.typst_linked.specs.Place.{Place, subtree, below, child_place}
use Rattle.typst_linked.specs.Part.{begin_at, IsFirstEnding, EndsBefore, HasNoOwnText}
use Rattle.typst_linked.specs.Ranges.{begin_of}
use Rattle.typst_node.specs.BinaryDigits.{binary_digits}
use Rattle.typst_linked.specs.Search.{weight_along}
use Rattle.typst_linked.specs.LeafAt.{reaches_cursor, covers_cursor, least_end, is_childless, covering_leaf, last_leaf, leaf_path, leaf_place, CoversCursor, IsCoveringBelow}
use Rattle.typst_linked.specs.LeafLooks.{IsNextChild, IsWay, HasWay, HasLookEachFork, one_if_several}
use Rattle.typst_linked.specs.declared.cursor.Side.{Side}
use Rattle.typst_linked.specs.declared.cursor.Side.TheVariants.{Before, After}
use Rattle.typst_linked.specs.declared.floor.Part.{Part}
use Rattle.typst_linked.proofs.Covers.{child_begin, child_there}
use Rattle.typst_linked.proofs.LeafCovers.{covers_tells, covers_when, place_covers, covers_place, covering_is, offset-append}
use Rattle.typst_node.proofs.Offsets.{length-text}
use Rattle.typst_linked.proofs.Searching.{below-nothing, found_at}
use Rattle.typst_node.proofs.PathSteps.{at-append}
use Rattle.typst_linked.proofs.Places.{same_node}
use Rattle.typst_linked.proofs.Weights.{weight_along-root, weight_along-cons}

-- the first of some trees begins before any goal but 0
begin_small : (goal : ℕ) (ts : List Tree) (part : Part) → 0 < goal → IsFirstEnding goal ts part → part.begin < goal
begin_small goal ts part p first = elim (cases_order 0 part.index) [
  | inl same ↦
      let e : begin_at ts part.index ≡ begin_at ts 0 = ap (begin_at ts) (sym same) in
      let z : begin_at ts 0 ≡ 0 = refl in
      omega (arith, first.begin_is, e, z)
  | inr r ↦ elim r [ inl l ↦ first.before l | inr l ↦ absurd (omega arith) ]
]

-- the first child that ends late enough covers what its parent covers
pub part_covers : (side : Side) (cursor : ℕ) (p : Place) (t c : Tree) (part : Part) → subtree p ≡ Some t → HasNoOwnText t → slice_get (trees t.children) part.index ≡ Some c → CoversCursor side cursor p →
    IsFirstEnding (least_end side cursor - begin_of p) (trees t.children) part → CoversCursor side cursor (child_place p part.index)
part_covers side cursor p t c part h bare s cover first =
    let k = child_begin p t c part.index h bare s in
    let own = covers_tells side cursor (begin_of p) (begin_of p + length (text t)) (place_covers side cursor p t h cover) in
    let small = begin_small (least_end side cursor - begin_of p) (trees t.children) part (omega (arith, own.0)) first in
    covers_place side cursor (child_place p part.index) c k.0
    (covers_when side cursor (begin_of (child_place p part.index)) (begin_of (child_place p part.index) + length (text c)) (omega (arith, k.1, first.begin_is, small)) (omega (arith, k.1, k.2, first.ends)))

take_whole : (ts : List Tree) → take (length ts) ts ≡ ts
take_whole [] = refl
take_whole (t ∷ ts) = ap (λ us. t ∷ us) (take_whole ts)

-- where all children end too early there are none
pub none_covers : (side : Side) (cursor : ℕ) (p : Place) (t : Tree) → subtree p ≡ Some t → HasNoOwnText t → CoversCursor side cursor p → EndsBefore (least_end side cursor - begin_of p) (trees t.children) → trees t.children ≡ []
none_covers side cursor p t h bare cover early = elim (cases_order 0 (length (trees t.children))) [
  | inl none ↦ empty (trees t.children) none
  | inr r ↦ elim r [
    | inr l ↦ absurd (omega arith)
    | inl l ↦
        let c = child_there (trees t.children) 0 l in
        let own = covers_tells side cursor (begin_of p) (begin_of p + length (text t)) (place_covers side cursor p t h cover) in
        let whole : begin_at (trees t.children) (length (trees t.children)) ≡ length (text_of_all (trees t.children)) = ap (λ ts. length (text_of_all ts)) (take_whole (trees t.children)) in
        absurd (omega (arith, own.0, own.1, early l, whole, length-text t, bare 0 c.0 c.1))
  ]
]
  where
    empty : (ts : List Tree) → 0 ≡ length ts → ts ≡ []
    empty [] e = refl
    empty (u ∷ ts) e = absurd (omega arith)

-- ---- the way

pub covering_next : (side : Side) (cursor : ℕ) (p : Place) (i : ℕ) → CoversCursor side cursor (child_place p i) → IsNextChild side cursor p i
covering_next Before cursor p i cover = inl cover
covering_next After cursor p i cover = cover

-- the search goes on at a child
pub way_on : (side : Side) (cursor old mid new i : ℕ) (p child : Place) (t c : Tree) → subtree p ≡ Some t → slice_get (trees t.children) i ≡ Some c → subtree child ≡ Some c → child ≡ child_place p i →
    IsNextChild side cursor p i → mid ≤ old + binary_digits (length (trees t.children)) → (CoversCursor side cursor p → (old < mid) × CoversCursor side cursor child) → HasWay side cursor child mid new → HasWay side cursor p old new
way_on side cursor old mid new i p child t c h s hc e next cost one more = record {
  path = i ∷ more.path;
  way = (next, subst (λ (q : Place). IsWay side cursor q more.path) e more.way);
  most = λ u hu. subst (λ (v : Tree). new ≤ old + weight_along binary_digits (i ∷ more.path) v) (same_node t u p h hu) (omega (arith, cost, more.most c hc, weight_along-cons binary_digits i more.path t c s));
  each = λ cover. let step = one cover in omega (arith, step.0, more.each step.1);
}

-- ---- one look at least for each node of several children

-- a node without children is the answer
pub fork_end : (p : Place) (t : Tree) (n : ℕ) → subtree p ≡ Some t → trees t.children ≡ [] → HasLookEachFork p n n p
fork_end p t n h none =
    record {
      path = [];
      place_is = below-nothing p;
      forks = λ u hu. let long : length (trees u.children) ≡ 0 = ap (λ (v : Tree). length (trees v.children)) (same_node u t p hu h) ∙ ap length none in
          omega (arith, weight_along-root one_if_several u, long);
    }

-- the answer below a child
pub fork_on : (old mid new i : ℕ) (p child found : Place) (t c : Tree) → subtree p ≡ Some t → slice_get (trees t.children) i ≡ Some c → subtree child ≡ Some c → child ≡ child_place p i →
    old + one_if_several (length (trees t.children)) ≤ mid → HasLookEachFork child mid new found → HasLookEachFork p old new found
fork_on old mid new i p child found t c h s hc e cost more =
    record {
      path = i ∷ more.path;
      place_is = more.place_is ∙ ap (λ (q : Place). below q more.path) e ∙ (λ x. record { root = p.root; path = append_assoc p.path (i ∷ []) more.path x });
      forks = λ u hu. subst (λ (v : Tree). old + weight_along one_if_several (i ∷ more.path) v ≤ new) (same_node t u p h hu) (omega (arith, cost, more.forks c hc, weight_along-cons one_if_several i more.path t c s));
    }

-- ---- what is found

pub some_and : (P : Tree → Type 0) (o : Option Tree) → IsSomeAnd o P → (t : Tree) × (o ≡ Some t) × P t
some_and P None h = absurd h
some_and P (Some t) h = (t, refl, h)

-- the leaf that covers the cursor is the one at it
pub leaf_covering : (side : Side) (cursor : ℕ) (p found : Place) (t : Tree) → subtree p ≡ Some t → is_childless t ≡ false → IsCoveringBelow side cursor p found → Some found ≡ leaf_place side cursor p
leaf_covering side cursor p found t h inner f =
    let m = some_and (λ u. trees u.children ≡ []) (subtree found) f.childless in
    let down : at f.path t ≡ Some m.0 = sym (at-append p.path f.path p.root t h) ∙ ap subtree (sym f.place_is) ∙ m.1 in
    let begin : begin_of found ≡ begin_of p + offset f.path t = ap begin_of f.place_is ∙ offset-append p.path f.path p.root t m.0 h down in
    let covers = place_covers side cursor found m.0 m.1 f.covers in
    let here : covers_cursor side cursor (begin_of p + offset f.path t) (begin_of p + offset f.path t + length (text m.0)) ≡ true = ap (λ b. covers_cursor side cursor b (b + length (text m.0))) (sym begin) ∙ covers in
    let there : leaf_path side cursor (begin_of p) t ≡ Some f.path =
    ap (λ b. cond b (cond (reaches_cursor side cursor (begin_of p + length (text t))) (Some []) None) (option_or (covering_leaf side cursor (begin_of p) t) (last_leaf side cursor (begin_of p) t))) inner
    ∙ ap (λ o. option_or o (last_leaf side cursor (begin_of p) t)) (covering_is side cursor (begin_of p) t m.0 f.path down m.2 here) in
    ap Some f.place_is ∙ sym (found_at (leaf_path side cursor (begin_of p)) p t (Some f.path) h there)
