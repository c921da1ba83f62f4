-- What the numbers of children along a path weigh.
use Rattle.std.proofs.Common.{◌≡◌, ℕ, ◌+◌, ◌≤◌, List, [], ◌∷◌, ◌++◌, length, map, Some, refl, sym, ◌∙◌, ap, arith}
use Rattle.std.specs.Prelude.{slice_get, sum_by}
use Rattle.std.proofs.lemmas.List.Sums.{sum_by-cons}
use Rattle.typst_node.specs.Tree.{Tree, trees}
use Rattle.typst_node.specs.Preorder.{if_some, at}
use Rattle.typst_linked.specs.Search.{child_count, prefixes, weight_along}
use Rattle.typst_node.proofs.PathSteps.{if_some_value}

sum_by-map : {X Y : Type 0} (f : Y → ℕ) (g : X → Y) (xs : List X) → sum_by f (map g xs) ≡ sum_by (λ x. f (g x)) xs
sum_by-map f g [] = refl
sum_by-map f g (x ∷ xs) = sum_by-cons f (g x) (map g xs) ∙ ap (λ n. f (g x) + n) (sum_by-map f g xs) ∙ sym (sum_by-cons (λ y. f (g y)) x xs)

pub weight_along-root : (w : ℕ → ℕ) (t : Tree) → weight_along w [] t ≡ w (length (trees t.children))
weight_along-root w t = omega (arith, sum_by-cons (λ q. w (child_count (at q t))) [] [])

pub weight_along-cons : (w : ℕ → ℕ) (i : ℕ) (p : List ℕ) (t c : Tree) → slice_get (trees t.children) i ≡ Some c → weight_along w (i ∷ p) t ≡ w (length (trees t.children)) + weight_along w p c
weight_along-cons w i p t c s =
    let weigh : List ℕ → ℕ = λ q. w (child_count (at q t)) in
    let rest : sum_by (λ q. weigh (i ∷ q)) (prefixes p) ≡ weight_along w p c = ap (λ (f : List ℕ → ℕ). sum_by f (prefixes p)) (λ x q. w (child_count (if_some (at q) (s x)))) in
    sum_by-cons weigh [] (map (λ q. i ∷ q) (prefixes p))
    ∙ ap (λ n. w (length (trees t.children)) + n) (sum_by-map weigh (λ q. i ∷ q) (prefixes p) ∙ rest)

-- one step more
pub weight_along-push : (w : ℕ → ℕ) (p : List ℕ) (i : ℕ) (t m c : Tree) → at p t ≡ Some m → slice_get (trees m.children) i ≡ Some c → weight_along w (p ++ i ∷ []) t ≡ weight_along w p t + w (length (trees c.children))
weight_along-push w [] i t m c h s =
    let h : Some t ≡ Some m = h in
    let same : t ≡ m = cc in
    let back : slice_get (trees t.children) i ≡ Some c = ap (λ (u : Tree). slice_get (trees u.children) i) same ∙ s in
    omega (arith, weight_along-cons w i [] t c back, weight_along-root w c, weight_along-root w t)
weight_along-push w (j ∷ p) i t m c h s =
    let x = if_some_value (at p) (slice_get (trees t.children) j) m h in
    omega (arith, weight_along-cons w j (p ++ i ∷ []) t x.0 x.1, weight_along-cons w j p t x.0 x.1, weight_along-push w p i x.0 m c x.2 s)

weight_along-least : (w : ℕ → ℕ) (p : List ℕ) (t : Tree) → w (length (trees t.children)) ≤ weight_along w p t
weight_along-least w [] t = omega (arith, weight_along-root w t)
weight_along-least w (i ∷ p) t = omega (arith, sum_by-cons (λ q. w (child_count (at q t))) [] (map (λ q. i ∷ q) (prefixes p)))

-- more steps weigh no less
pub weight_along-append : (w : ℕ → ℕ) (p q : List ℕ) (t m : Tree) → at p t ≡ Some m → weight_along w p t ≤ weight_along w (p ++ q) t
weight_along-append w [] q t m h = omega (arith, weight_along-root w t, weight_along-least w q t)
weight_along-append w (i ∷ p) q t m h =
    let x = if_some_value (at p) (slice_get (trees t.children) i) m h in
    omega (arith, weight_along-cons w i p t x.0 x.1, weight_along-cons w i (p ++ q) t x.0 x.1, weight_along-append w p q x.0 m x.2)
