-- Which children cover a range.
use Rattle.std.proofs.Common.{◌≡◌, ℕ, suc, zero, ◌+◌, ◌-◌, ◌<◌, ◌≤◌, inl, inr, List, [], ◌∷◌, length, take, Option, None, Some, sym, ◌∙◌, ap, subst, arith, append_assoc}
use Rattle.std.specs.Prelude.{slice_get, IsSomeAnd}
use Rattle.std.proofs.lemmas.List.{append-nil}
use Rattle.std.proofs.lemmas.Bool.{cases_lt, cases_order}
use Rattle.std.proofs.lemmas.Option.{slice_get_within}
use Rattle.typst_node.specs.Tree.{Tree, trees}
use Rattle.typst_node.specs.Text.{text}
use Rattle.typst_node.specs.Preorder.{if_some, at}
use Rattle.typst_node.proofs.Trees.{length-text_of_all-cons}
use Rattle.typst_linked.specs.Place.{Place, subtree, below, child_place}
use Rattle.typst_linked.specs.Part.{begin_at, IsFirstEnding, EndsBefore, HasNoOwnText}
use Rattle.typst_linked.specs.Ranges.{begin_of, HasRange, Covers, IsFirstCover, IsRangePath, FindsRange, IsCoverPath, IsCoverBelow}
use Rattle.typst_linked.specs.declared.floor.Part.{Part}
use Rattle.typst_node.proofs.PathSteps.{at-append, at-push}
use Rattle.typst_node.proofs.Offsets.{offset-push, text_of_all-more}
use Rattle.typst_linked.proofs.Found.{option_cases}

-- earlier texts end earlier
pub begin_at-le : (ts : List Tree) (i j : ℕ) → i ≤ j → begin_at ts i ≤ begin_at ts j
begin_at-le ts zero j h = omega arith
begin_at-le [] (suc i) zero h = omega arith
begin_at-le [] (suc i) (suc j) h = omega arith
begin_at-le (t ∷ ts) (suc i) zero h = absurd (omega arith)
begin_at-le (t ∷ ts) (suc i) (suc j) h = omega (arith, length-text_of_all-cons t (take i ts), length-text_of_all-cons t (take j ts), begin_at-le ts i j (omega arith))

-- where a child begins and ends
pub child_begin : (p : Place) (t c : Tree) (i : ℕ) → subtree p ≡ Some t → HasNoOwnText t → slice_get (trees t.children) i ≡ Some c →
    (subtree (child_place p i) ≡ Some c) × (begin_of (child_place p i) ≡ begin_of p + begin_at (trees t.children) i) × (begin_at (trees t.children) (i + 1) ≡ begin_at (trees t.children) i + length (text c))
child_begin p t c i h bare s =
    (at-push p.path i p.root t c h s, omega (arith, offset-push p.path i p.root t c h s, bare i c s), text_of_all-more (trees t.children) i c s)

-- where there is no child
no_child : (p : Place) (t : Tree) (i : ℕ) → subtree p ≡ Some t → slice_get (trees t.children) i ≡ None → subtree (child_place p i) ≡ None
no_child p t i h s = at-append p.path (i ∷ []) p.root t h ∙ ap (if_some (at [])) s

covers_child : (start end : ℕ) (p : Place) (t c : Tree) (i : ℕ) → subtree p ≡ Some t → HasNoOwnText t → slice_get (trees t.children) i ≡ Some c → Covers start end (child_place p i) →
    (begin_of p + begin_at (trees t.children) i ≤ start) × (end ≤ begin_of p + begin_at (trees t.children) (i + 1))
covers_child start end p t c i h bare s cover =
    let k = child_begin p t c i h bare s in
    let both = subst (λ (o : Option Tree). IsSomeAnd o (λ u. (begin_of (child_place p i) ≤ start) × (end ≤ begin_of (child_place p i) + length (text u)))) k.0 cover in
    (omega (arith, both.0, k.1), omega (arith, both.1, k.1, k.2))

-- a child that covers is one
covers_there : (start end : ℕ) (p : Place) (t : Tree) (i : ℕ) → subtree p ≡ Some t → Covers start end (child_place p i) → (c : Tree) × (slice_get (trees t.children) i ≡ Some c)
covers_there start end p t i h cover = elim (option_cases (slice_get (trees t.children) i)) [
  | inl none ↦ absurd (subst (λ (o : Option Tree). IsSomeAnd o (λ u. (begin_of (child_place p i) ≤ start) × (end ≤ begin_of (child_place p i) + length (text u)))) (no_child p t i h none) cover)
  | inr c ↦ c
]

-- none covers where all end before
pub none_ends : (start end : ℕ) (p : Place) (t : Tree) → subtree p ≡ Some t → HasNoOwnText t → EndsBefore (end - begin_of p) (trees t.children) → (i : ℕ) → Covers start end (child_place p i) → ⊥
none_ends start end p t h bare before i cover =
    let c = covers_there start end p t i h cover in
    let l = slice_get_within (trees t.children) i c.0 c.1 in
    let k = covers_child start end p t c.0 i h bare c.1 cover in
    omega (arith, k.1, before (omega arith), begin_at-le (trees t.children) (i + 1) (length (trees t.children)) (omega arith))

-- none covers where the first that ends late enough begins too late
pub none_begins : (start end : ℕ) (p : Place) (t : Tree) (part : Part) → subtree p ≡ Some t → HasNoOwnText t → IsFirstEnding (end - begin_of p) (trees t.children) part → start < begin_of p + part.begin → (i : ℕ) → Covers start end (child_place p i) → ⊥
none_begins start end p t part h bare first late i cover =
    let c = covers_there start end p t i h cover in
    let k = covers_child start end p t c.0 i h bare c.1 cover in
    elim (cases_lt i part.index) [
      | inl less ↦ omega (arith, k.1, first.begin_is, first.before (omega arith), begin_at-le (trees t.children) (i + 1) part.index (omega arith))
      | inr more ↦ omega (arith, k.0, first.begin_is, begin_at-le (trees t.children) part.index i more)
    ]

-- else it is the first that covers
pub first_covers : (start end : ℕ) (p : Place) (t c : Tree) (part : Part) → subtree p ≡ Some t → HasNoOwnText t → slice_get (trees t.children) part.index ≡ Some c → IsFirstEnding (end - begin_of p) (trees t.children) part → begin_of p + part.begin ≤ start → IsFirstCover start end p part.index
first_covers start end p t c part h bare s first early =
    let k = child_begin p t c part.index h bare s in
    let here : (begin_of (child_place p part.index) ≤ start) × (end ≤ begin_of (child_place p part.index) + length (text c)) = (omega (arith, k.1, first.begin_is), omega (arith, k.1, k.2, first.ends)) in (
      subst (λ (o : Option Tree). IsSomeAnd o (λ u. (begin_of (child_place p part.index) ≤ start) × (end ≤ begin_of (child_place p part.index) + length (text u)))) (sym k.0) here,
      λ j less cover.
          let d = covers_there start end p t j h cover in
          let m = covers_child start end p t d.0 j h bare d.1 cover in
          omega (arith, m.1, first.begin_is, first.before (omega arith), begin_at-le (trees t.children) (j + 1) part.index (omega arith)),
    )

-- ---- from the answer below the first child that covers

one_first : (start end : ℕ) (p : Place) (i j : ℕ) → IsFirstCover start end p i → IsFirstCover start end p j → i ≡ j
one_first start end p i j a b = elim (cases_order i j) [
  | inl same ↦ same
  | inr r ↦ elim r [ inl l ↦ absurd (b.1 i l a.0) | inr l ↦ absurd (a.1 j l b.0) ]
]

range_more : (start end : ℕ) (p child : Place) (i : ℕ) (r : Place) → child ≡ child_place p i → (HasRange start end p → ⊥) → IsFirstCover start end p i → FindsRange start end child (Some r) → FindsRange start end p (Some r)
range_more start end p child i r e out first found = (
  i ∷ found.0,
  found.1 ∙ ap (λ (b : Place). below b found.0) e ∙ (λ x. record { root = p.root; path = append_assoc p.path (i ∷ []) found.0 x }),
  (out, first, subst (λ (b : Place). IsRangePath start end b found.0) e found.2),
)

range_less : (start end : ℕ) (p child : Place) (i : ℕ) → child ≡ child_place p i → (HasRange start end p → ⊥) → IsFirstCover start end p i → FindsRange start end child None → (path : List ℕ) → IsRangePath start end p path → ⊥
range_less start end p child i e out first found [] path = out path
range_less start end p child i e out first found (j ∷ q) path =
    let same = one_first start end p i j first path.1 in
    found q (subst (λ (r : Place). IsRangePath start end r q) (ap (child_place p) (sym same) ∙ sym e) path.2)

pub range_step : (start end : ℕ) (p child : Place) (i : ℕ) (answer : Option Place) → child ≡ child_place p i → (HasRange start end p → ⊥) → IsFirstCover start end p i → FindsRange start end child answer → FindsRange start end p answer
range_step start end p child i None e out first found = range_less start end p child i e out first found
range_step start end p child i (Some r) e out first found = range_more start end p child i r e out first found

-- there is no child to go to
pub range_none : (start end : ℕ) (p : Place) → (HasRange start end p → ⊥) → ((i : ℕ) → Covers start end (child_place p i) → ⊥) → FindsRange start end p None
range_none start end p out none = nowhere
  where
    nowhere : (path : List ℕ) → IsRangePath start end p path → ⊥
    nowhere [] path = out path
    nowhere (j ∷ q) path = none j path.1.0

-- the same of the smallest one that covers
pub cover_here : (start end : ℕ) (p : Place) → Covers start end p → ((i : ℕ) → Covers start end (child_place p i) → ⊥) → IsCoverBelow start end p p
cover_here start end p here none = record {
  smallest = (here, none);
  path = [];
  leads = ap (λ (q : List ℕ). record { root = p.root; path = q }) (sym (append-nil p.path));
  steps = (here, none);
}

pub cover_step : (start end : ℕ) (p child : Place) (i : ℕ) (r : Place) → child ≡ child_place p i → IsFirstCover start end p i → IsCoverBelow start end child r → IsCoverBelow start end p r
cover_step start end p child i r e first found = record {
  smallest = found.smallest;
  path = i ∷ found.path;
  leads = found.leads ∙ ap (λ (b : Place). below b found.path) e ∙ (λ x. record { root = p.root; path = append_assoc p.path (i ∷ []) found.path x });
  steps = (first, subst (λ (b : Place). IsCoverPath start end b found.path) e found.steps);
}

pub covers_is : (start end : ℕ) (p : Place) (t : Tree) → subtree p ≡ Some t → Covers start end p → (begin_of p ≤ start) × (end ≤ begin_of p + length (text t))
covers_is start end p t h k = subst (λ (o : Option Tree). IsSomeAnd o (λ u. (begin_of p ≤ start) × (end ≤ begin_of p + length (text u)))) h k

pub is_covers : (start end : ℕ) (p : Place) (t : Tree) → subtree p ≡ Some t → begin_of p ≤ start → end ≤ begin_of p + length (text t) → Covers start end p
is_covers start end p t h low high = subst (λ (o : Option Tree). IsSomeAnd o (λ u. (begin_of p ≤ start) × (end ≤ begin_of p + length (text u)))) (sym h) (low, high)

pub range_there : (start end : ℕ) (p : Place) (t : Tree) → subtree p ≡ Some t → HasRange start end p → (begin_of p ≡ start) × (begin_of p + length (text t) ≡ end)
range_there start end p t h k = subst (λ (o : Option Tree). IsSomeAnd o (λ u. (begin_of p ≡ start) × (begin_of p + length (text u) ≡ end))) h k

-- none covers where there is no child
pub none_childless : (start end : ℕ) (p : Place) (t : Tree) → subtree p ≡ Some t → length (trees t.children) ≡ 0 → (i : ℕ) → Covers start end (child_place p i) → ⊥
none_childless start end p t h e i cover =
    let c = covers_there start end p t i h cover in
    omega (arith, slice_get_within (trees t.children) i c.0 c.1)

-- the child with an index
pub child_there : (ts : List Tree) (i : ℕ) → i < length ts → (c : Tree) × (slice_get ts i ≡ Some c)
child_there ts i l = elim (option_cases (slice_get ts i)) [
  | inr c ↦ c
  | inl none ↦ absurd (past ts i l none)
]
  where
    past : (ts : List Tree) (i : ℕ) → i < length ts → slice_get ts i ≡ None → ⊥
    past [] i l none = omega arith
    past (t ∷ ts) zero l none = let bad : Some t ≡ None = none in cc
    past (t ∷ ts) (suc i) l none = past ts i (omega arith) none
