-- The last item of a list.
use Rattle.std.proofs.Common.{◌≡◌, ◌∙◌, ℕ, ◌+◌, ◌-◌, ◌<◌, List, [], ◌∷◌, ◌++◌, length, take, get_or, set, ap, sym, arith}
use Rattle.std.proofs.lemmas.List.{length-set, take_all, take_more, take_more_set}

-- a list, and its last item
pub last_apart : {X : Type 0} (xs : List X) (n : ℕ) (x : X) → n ≡ length xs → 0 < n → x ≡ get_or xs (n - 1) x → xs ≡ take (n - 1) xs ++ x ∷ []
last_apart xs n x long some is =
    sym (take_all (n - 1 + 1) xs (omega (arith, long, some)))
    ∙ (take_more xs (n - 1) x (omega (arith, long, some)) ∙ ap (λ y. take (n - 1) xs ++ y ∷ []) (sym is))

-- another item replaces the last one
pub last_set : {X : Type 0} (xs : List X) (n : ℕ) (x : X) → n ≡ length xs → 0 < n → set xs (n - 1) x ≡ take (n - 1) xs ++ x ∷ []
last_set xs n x long some =
    sym (take_all (n - 1 + 1) (set xs (n - 1) x) (omega (arith, long, some, length-set xs (n - 1) x)))
    ∙ take_more_set xs (n - 1) x (omega (arith, long, some))
