-- What is after an item that passes a test.
use Rattle.std.proofs.Common.{◌≡◌, ℕ, ◌+◌, ◌-◌, ◌<◌, List, take, drop, get_or, ap, subst, ⊎_elim, arith, ◌∙◌}
use Rattle.std.specs.Prelude.{Bool, cond, Option, IsSomeAnd, IsTrue}
use Rattle.std.specs.List.{count_by, slice_get}
use Rattle.std.proofs.lemmas.List.Sums.{sum_by-take-drop, sum_by-drop_more}
use Rattle.std.proofs.lemmas.Option.{slice_get_cases}

-- as many items pass after it as are left of all when those before it and the item itself are taken away
pub picked_back : {X : Type 0} (p : X → Bool) (xs : List X) (at index : ℕ) → IsSomeAnd (slice_get xs at) (λ x. IsTrue (p x)) → index < count_by p xs
    → count_by p (take at xs) ≡ count_by p xs - 1 - index → count_by p (drop (at + 1) xs) ≡ index
picked_back {X} p xs at index here less before =
    let one : X → ℕ = λ x. cond (p x) 1 0 in
    let passes : Option X → Type 0 = λ o. IsSomeAnd o (λ x. IsTrue (p x)) in
    ⊎_elim
    (λ found.
    let counts : one (get_or xs at found.0) ≡ 1 = ap one found.3 ∙ ap (λ (b : Bool). cond b 1 0) (subst passes found.2 here) in
    omega (arith, less, before, sum_by-take-drop one xs at, sum_by-drop_more one xs at found.0 found.1, counts))
    (λ none. absurd (subst passes none.1 here))
    (slice_get_cases xs at).1
