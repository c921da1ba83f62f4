-- The children in a window, and numbers that differ.
use Rattle.std.proofs.Common.{◌≡◌, ℕ, zero, suc, ◌+◌, ◌-◌, ◌<◌, ◌≤◌, ◌==◌, ◌⊎◌, inl, inr, List, [], ◌∷◌, length, take, drop, get_or, refl, sym, ap, ◌∙◌, arith, min, Bool, true, false}
use Rattle.std.specs.Prelude.{if◌then◌else◌, nat_lt}
use Rattle.std.proofs.lemmas.Bool.{ltb-true, ltb-false}
use Rattle.std.proofs.lemmas.List.{get_or_past}
use Rattle.typst_node.specs.Tree.{Tree, trees}
use Rattle.typst_node.specs.Paths.{IsPath, no_tree, tree_at, trees_at}
use Rattle.typst_node.proofs.FirstThatPasses.{bool_cases}
use Rattle.typst_node.specs.declared.node.reconcile.Touched.TheVariants.{Window}
use Rattle.typst_node.specs.declared.node.replace.Renumbered.{Renumbered}
use Rattle.typst_shown.specs.Report.{differing, in_window}

inside_or_past : (i n : ℕ) → (i < n) ⊎ (n ≤ i)
inside_or_past i n = elim (bool_cases (nat_lt i n)) [ inl e ↦ inl (ltb-true i n e) | inr e ↦ inr (ltb-false i n e) ]

-- a path that leads nowhere has no children
none_below : (path : List ℕ) → trees (tree_at path no_tree).children ≡ []
none_below [] = refl
none_below (i ∷ path) = none_below path

pub none_off : (path : List ℕ) (t : Tree) → ¬ (IsPath path t) → trees (tree_at path t).children ≡ []
none_off [] t off = absurd (off tt)
none_off (i ∷ path) t off = elim (inside_or_past i (length (trees t.children))) [
  | inl inside ↦ none_off path (get_or (trees t.children) i no_tree) (λ there. off (inside, there))
  | inr past ↦ ap (λ (u : Tree). trees (tree_at path u).children) (get_or_past (trees t.children) i no_tree past) ∙ none_below path
]

drop_none : {X : Type 0} (n : ℕ) → drop {A = X} n [] ≡ []
drop_none zero = refl
drop_none (suc n) = refl

take_none : {X : Type 0} (n : ℕ) → take {A = X} n [] ≡ []
take_none zero = refl
take_none (suc n) = refl

pub no_window : (r : Renumbered) → in_window (Window r) [] ≡ []
no_window r = ap (take (r.window.end - r.window.start)) (drop_none {X = Tree} r.window.start) ∙ take_none {X = Tree} (r.window.end - r.window.start)

-- how many numbers differ among one more
differing_next : (xs ys : List ℕ) (i : ℕ) → i < length xs → i < length ys
    → differing (take (suc i) xs) (take (suc i) ys) ≡ differing (take i xs) (take i ys) + (if get_or xs i 0 == get_or ys i 0 then 0 else 1)
differing_next [] ys i h k = absurd (omega arith)
differing_next (x ∷ xs) [] i h k = absurd (omega arith)
differing_next (x ∷ xs) (y ∷ ys) zero h k = omega arith
differing_next (x ∷ xs) (y ∷ ys) (suc i) h k = let more = differing_next xs ys i (omega arith) (omega arith) in omega arith

pub differing_more : (xs ys : List ℕ) (i : ℕ) → i < length xs → i < length ys
    → differing (take (i + 1) xs) (take (i + 1) ys) ≡ differing (take i xs) (take i ys) + (if get_or xs i 0 == get_or ys i 0 then 0 else 1)
differing_more xs ys i h k = let next : i + 1 ≡ suc i = omega arith in ap (λ n. differing (take n xs) (take n ys)) next ∙ differing_next xs ys i h k

pub at_most_one : (b : Bool) → (if b then 0 else 1) ≤ 1
at_most_one true = omega arith
at_most_one false = omega arith

pub differing_few : (xs ys : List ℕ) (i : ℕ) → differing (take i xs) (take i ys) ≤ i
differing_few xs ys zero = omega arith
differing_few [] ys (suc i) = omega arith
differing_few (x ∷ xs) [] (suc i) = omega arith
differing_few (x ∷ xs) (y ∷ ys) (suc i) = omega (arith, differing_few xs ys i, at_most_one (x == y))

-- all of them
pub differing_all : (xs ys : List ℕ) (n : ℕ) → n ≡ min (length xs) (length ys) → differing (take n xs) (take n ys) ≡ differing xs ys
differing_all [] ys n is = let none : n ≡ 0 = omega (arith, is) in ap (λ k. differing (take k []) (take k ys)) none
differing_all (x ∷ xs) [] n is = let none : n ≡ 0 = omega (arith, is) in ap (λ k. differing (take k (x ∷ xs)) (take k [])) none
differing_all (x ∷ xs) (y ∷ ys) zero is = absurd (omega (arith, is))
differing_all (x ∷ xs) (y ∷ ys) (suc n) is = ap (λ k. (if x == y then 0 else 1) + k) (differing_all xs ys n (omega (arith, is)))
