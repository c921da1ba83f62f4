-- The last element of a list, and the elements before it.
use Rattle.std.proofs.Common.{◌≡◌, List, [], ◌∷◌, ◌++◌, Option, Some, None, refl, ap, ◌∙◌}
use Rattle.typst_parser.specs.Last.{last_of}

-- the element behind a list is the last one, and the list is what comes before it
pub last_push : {X : Type 0} (xs : List X) (x : X) → last_of (xs ++ x ∷ []) ≡ Some (xs, x)
last_push [] x = refl
last_push {X} (y ∷ ys) x = ap (λ (o : Option (List X × X)). let r : Option (List X × X) = elim o [ None ↦ Some ([], y) | Some p ↦ Some (y ∷ p.0, p.1) ] in r) (last_push ys x)

never : {X : Type 0} (o : Option (List X × X)) (y : X) (A : Type 0) → (let r : Option (List X × X) = elim o [ None ↦ Some ([], y) | Some q ↦ Some (y ∷ q.0, q.1) ] in r) ≡ None → A
never None y A e = cc
never (Some q) y A e = cc

no_last : {X : Type 0} (xs : List X) → last_of xs ≡ None → xs ≡ []
no_last [] e = refl
no_last (x ∷ xs) e = never (last_of xs) x (x ∷ xs ≡ []) e

last_by : {X : Type 0} (x : X) (xs : List X) (p : List X × X) (o : Option (List X × X)) → last_of xs ≡ o → ((q : List X × X) → last_of xs ≡ Some q → xs ≡ q.0 ++ q.1 ∷ [])
    → (let r : Option (List X × X) = elim o [ None ↦ Some ([], x) | Some q ↦ Some (x ∷ q.0, q.1) ] in r) ≡ Some p → x ∷ xs ≡ p.0 ++ p.1 ∷ []
last_by {X} x xs p None e ih h = let q : ([], x) ≡ p = cc in ap (λ ys. x ∷ ys) (no_last xs e) ∙ ap (λ (r : List X × X). r.0 ++ r.1 ∷ []) q
last_by {X} x xs p (Some q) e ih h = let k : (x ∷ q.0, q.1) ≡ p = cc in ap (λ ys. x ∷ ys) (ih q e) ∙ ap (λ (r : List X × X). r.0 ++ r.1 ∷ []) k

-- a list is the elements before its last one, and the last one behind them
pub last_was : {X : Type 0} (xs : List X) (p : List X × X) → last_of xs ≡ Some p → xs ≡ p.0 ++ p.1 ∷ []
last_was [] p h = cc
last_was (x ∷ xs) p h = last_by x xs p (last_of xs) refl (λ q e. last_was xs q e) h
