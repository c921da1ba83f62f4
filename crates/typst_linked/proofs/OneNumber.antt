-- In a numbered tree a number leads to one path.
use Rattle.std.proofs.Common.{◌≡◌, ℕ, ◌+◌, ◌<◌, inl, inr, List, [], ◌∷◌, get_or, refl, sym, ◌∙◌, ap, arith, Option, Some, None, slice_get, eq-eqb}
use Rattle.std.proofs.lemmas.Bool.{cases_lt, eqb-true}
use Rattle.std.proofs.lemmas.Option.{slice_get-get_or}
use Rattle.typst_node.specs.Tree.{Label, Tree, trees}
use Rattle.typst_node.specs.Preorder.{at, if_some}
use Rattle.typst_node.specs.Labels.{number, bound}
use Rattle.typst_node.specs.Numbered.{IsNumbered, IsNumberedFor}
use Rattle.typst_node.specs.Paths.{IsPath, tree_at, no_tree}
use Rattle.typst_linked.specs.Search.{with_number, has_number}
use Rattle.typst_linked.proofs.Found.{first_path_only}
use Rattle.typst_linked.proofs.Ordered.{IsInOrder, numbered_order, child_in_order, node_in_order, deeper, one_before}

-- a path leads to the subtree there
pub at-path : (path : List ℕ) (t : Tree) → IsPath path t → at path t ≡ Some (tree_at path t)
at-path [] t there = refl
at-path (i ∷ path) t there =
    ap (if_some (at path)) (slice_get-get_or (trees t.children) i no_tree there.0) ∙ at-path path (get_or (trees t.children) i no_tree) there.1

some_same : {x y : Tree} → Some x ≡ Some y → x ≡ y
some_same e = cc

step_down : (path : List ℕ) (o : Option Tree) (m : Tree) → if_some (at path) o ≡ Some m → (c : Tree) × (o ≡ Some c) × (at path c ≡ Some m)
step_down path None m leads = cc
step_down path (Some c) m leads = (c, refl, leads)

-- a node below an earlier child has a smaller number
earlier : (file : ℕ) (t c e m k : Tree) (i j : ℕ) (p q : List ℕ) → IsInOrder file t → slice_get (trees t.children) i ≡ Some c → slice_get (trees t.children) j ≡ Some e → at p c ≡ Some m → at q e ≡ Some k → i < j → number m.label < number k.label
earlier file t c e m k i j p q order first second leads other before =
    let low = node_in_order file p c m (child_in_order file t c i order first).2 leads in
    let high = node_in_order file q e k (child_in_order file t e j order second).2 other in
    omega (arith, low.1, high.0, one_before file (number t.label + 1) (bound t.label) t.children i j c e order first second before)

pub one_path : (file : ℕ) (p q : List ℕ) (t m k : Tree) → IsInOrder file t → at p t ≡ Some m → at q t ≡ Some k → number m.label ≡ number k.label → p ≡ q
one_path file [] [] t m k order leads other same = refl
one_path file [] (j ∷ q) t m k order leads other same =
    let top : m ≡ t = cc in
    absurd (omega (arith, deeper file j q t k order other, same, ap (λ (u : Tree). number u.label) top))
one_path file (i ∷ p) [] t m k order leads other same =
    let top : k ≡ t = cc in
    absurd (omega (arith, deeper file i p t m order leads, same, ap (λ (u : Tree). number u.label) top))
one_path file (i ∷ p) (j ∷ q) t m k order leads other same =
    let first = step_down p (slice_get (trees t.children) i) m leads in
    let second = step_down q (slice_get (trees t.children) j) k other in
    elim (cases_lt i j) [
      | inl less ↦ absurd (omega (arith, earlier file t first.0 second.0 m k i j p q order first.1 second.1 first.2 second.2 less, same))
      | inr not_less ↦ elim (cases_lt j i) [
        | inl more ↦ absurd (omega (arith, earlier file t second.0 first.0 k m j i q p order second.1 first.1 second.2 first.2 more, same))
        | inr not_more ↦
            let index : i ≡ j = omega (arith, not_less, not_more) in
            let child : first.0 ≡ second.0 = some_same (sym first.1 ∙ (ap (slice_get (trees t.children)) index ∙ second.1)) in
            let rest = one_path file p q second.0 m k (child_in_order file t second.0 j order second.1).2 (ap (at p) (sym child) ∙ first.2) second.2 same in
            λ l. index l ∷ rest l
      ]
    ]

-- the plain search for the number of a node of a numbered tree answers the node's path
pub own_path : (t node : Tree) (path : List ℕ) → IsNumbered t → at path t ≡ Some node → with_number (number node.label) t ≡ Some path
own_path t node path numbered leads =
    let order = numbered_order t numbered in
    let n = number node.label in
    first_path_only (has_number n) t node path leads (eq-eqb n n refl)
    (λ p k other same. one_path order.0 p path t k node order.1 other leads (eqb-true (number k.label) n same))

pub own_number : (t : Tree) (path : List ℕ) → IsNumbered t → IsPath path t → with_number (number (tree_at path t).label) t ≡ Some path
own_number t path numbered there = own_path t (tree_at path t) path numbered (at-path path t there)

-- where a node of a numbered tree has a label, the plain search for that label's number answers its path
pub found_by_label : (t : Tree) (path : List ℕ) (label : Label) → IsNumbered t → IsPath path t → (tree_at path t).label ≡ label → with_number (number label) t ≡ Some path
found_by_label t path label numbered there same = ap (λ l. with_number (number l) t) (sym same) ∙ own_number t path numbered there

-- numbered for the file of a numbered tree
pub still_numbered : (t u : Tree) → IsNumbered t → IsNumberedFor t.label.span.file u → IsNumbered u
still_numbered t u numbered after = (t.label.span.file, omega (arith, numbered.1, numbered.2.in_file.0.0), after)
