-- The siblings of a child, and the nearest one that isn't trivia.
use Rattle.std.proofs.Common.{◌≡◌, ℕ, ◌+◌, ◌-◌, ◌<◌, List, [], ◌∷◌, ◌++◌, length, take, get_or, reverse, Some, cond, inl, inr, refl, sym, ◌∙◌, ap, arith}
use Rattle.std.specs.List.{position_from}
use Rattle.std.specs.Option.{option_map}
use Rattle.std.proofs.lemmas.List.{take_more, reverse-append}
use Rattle.typst_node.specs.Tree.{Tree, trees}
use Rattle.typst_node.specs.Preorder.{at}
use Rattle.typst_linked.specs.Place.{Place, subtree, child_place}
use Rattle.typst_linked.specs.Siblings.{front, siblings, children_of, is_solid, solid_before, parent_place, parent_tree, parent_at}
use Rattle.typst_node.proofs.FirstThatPasses.{bool_cases}

front-cons : (i j : ℕ) (p : List ℕ) → front (i ∷ (p ++ j ∷ [])) ≡ i ∷ front (p ++ j ∷ [])
front-cons i j [] = refl
front-cons i j (k ∷ p) = refl

pub front-push : (p : List ℕ) (i : ℕ) → front (p ++ i ∷ []) ≡ p
front-push [] i = refl
front-push (j ∷ p) i = front-cons j i p ∙ ap (λ q. j ∷ q) (front-push p i)

pub parent_of_child : (p : Place) (i : ℕ) → parent_place (child_place p i) ≡ p
parent_of_child p i = λ x. record { root = p.root; path = front-push p.path i x }

siblings_below : (root : Tree) (p : List ℕ) (i : ℕ) → siblings (record { root = root; path = p ++ i ∷ [] }) ≡ children_of (at p root)
siblings_below root [] i = refl
siblings_below root (j ∷ p) i = ap (λ q. children_of (at q root)) (front-push (j ∷ p) i)

pub parent_tree-child : (p : Place) (i : ℕ) → parent_tree (child_place p i) ≡ subtree p
parent_tree-child p i = above p.root p.path i
  where
    above : (root : Tree) (p : List ℕ) (i : ℕ) → parent_at root (p ++ i ∷ []) ≡ at p root
    above root [] i = refl
    above root (j ∷ p) i = ap (λ q. at q root) (front-push (j ∷ p) i)

-- the siblings of a child are its parent's children
pub siblings-child : (p : Place) (i : ℕ) (t : Tree) → subtree p ≡ Some t → siblings (child_place p i) ≡ trees t.children
siblings-child p i t h = siblings_below p.root p.path i ∙ ap children_of h

position_from-map : (f : ℕ → ℕ) (g : ℕ → ℕ) (n m : ℕ) (ts : List Tree) → ((k : ℕ) → f (n + k) ≡ g (m + k)) → option_map f (position_from is_solid n ts) ≡ option_map g (position_from is_solid m ts)
position_from-map f g n m [] h = refl
position_from-map f g n m (t ∷ ts) h = elim (bool_cases (is_solid t)) [
  | inl e ↦ rw e (let z : n + 0 ≡ n = omega arith in let y : m + 0 ≡ m = omega arith in ap Some (sym (ap f z) ∙ h 0 ∙ ap g y))
  | inr e ↦ rw e (position_from-map f g (n + 1) (m + 1) ts (λ k. let z : n + 1 + k ≡ n + (1 + k) = omega arith in let y : m + 1 + k ≡ m + (1 + k) = omega arith in ap f z ∙ h (1 + k) ∙ sym (ap g y)))
]

-- one tree more before an index
pub solid_before-more : (ts : List Tree) (k : ℕ) (d : Tree) → k < length ts → solid_before (k + 1) ts ≡ cond (is_solid (get_or ts k d)) (Some k) (solid_before k ts)
solid_before-more ts k d h =
    let e : reverse (take (k + 1) ts) ≡ get_or ts k d ∷ reverse (take k ts) = ap reverse (take_more ts k d h) ∙ reverse-append (take k ts) (get_or ts k d ∷ []) in
    ap (λ us. option_map (λ j. k + 1 - 1 - j) (position_from is_solid 0 us)) e
    ∙ elim (bool_cases (is_solid (get_or ts k d))) [
      | inl s ↦ rw s (let z : k + 1 - 1 - 0 ≡ k = omega arith in ap Some z)
      | inr s ↦ rw s (position_from-map (λ j. k + 1 - 1 - j) (λ j. k - 1 - j) (0 + 1) 0 (reverse (take k ts)) (λ j. omega arith))
    ]
