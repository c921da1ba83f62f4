-- A list with one element more at its end.
use Rattle.std.proofs.Common.{◌≡◌, ◌<◌, ℕ, Bool, true, false, ◌||◌, cond, List, [], ◌∷◌, ◌++◌, length, take, length-append, arith, Option, Some, None, MatchOption, refl, sym, ap, ◌∙◌}
use Rattle.std.proofs.lemmas.List.{take-append-le, take_at}
use Rattle.std.specs.List.{list_any}
use Rattle.typst_ast.specs.Lists.{all_but_last, before_last}
use Rattle.typst_node.specs.Tree.{Tree}
use Rattle.typst_node.specs.Views.{Class, node_kind}

pub all_but_last_append : {A : Type 0} (xs : List A) (x : A) → all_but_last (xs ++ x ∷ []) ≡ xs
all_but_last_append [] x = refl
all_but_last_append (y ∷ []) x = refl
all_but_last_append (y ∷ (z ∷ xs)) x = let h = all_but_last_append (z ∷ xs) x in cc

-- the nodes before the last whose kind lies in a class
any_append : (c : Class) (ts : List Tree) (t : Tree) → list_any (λ s. c (node_kind s)) (ts ++ t ∷ []) ≡ (list_any (λ s. c (node_kind s)) ts || c (node_kind t))
any_append c [] t = elim (c (node_kind t)) as (λ v. (v || false) ≡ (false || v)) [ true ↦ refl | false ↦ refl ]
any_append c (s ∷ ts) t =
    elim (c (node_kind s)) as (λ v. (v || list_any (λ s. c (node_kind s)) (ts ++ t ∷ [])) ≡ ((v || list_any (λ s. c (node_kind s)) ts) || c (node_kind t))) [
      | true ↦ refl
      | false ↦ any_append c ts t
    ]

before_last_by : (v w : Bool) (s : Tree) (xs ts bs : List Tree) → xs ≡ cond v ts bs → cond (w || v) (s ∷ xs) [] ≡ cond v (s ∷ ts) (cond w (s ∷ bs) [])
before_last_by true true s xs ts bs e = ap (λ x. s ∷ x) e
before_last_by true false s xs ts bs e = ap (λ x. s ∷ x) e
before_last_by false true s xs ts bs e = ap (λ x. s ∷ x) e
before_last_by false false s xs ts bs e = refl

either_way : (v : Bool) (ts : List Tree) → ts ≡ cond v ts ts
either_way true ts = refl
either_way false ts = refl

pub before_last_append : (c : Class) (ts : List Tree) (t : Tree) → before_last c (ts ++ t ∷ []) ≡ cond (c (node_kind t)) ts (before_last c ts)
before_last_append c [] t = either_way (c (node_kind t)) []
before_last_append c (s ∷ ts) t =
    ap (λ v. cond v (s ∷ before_last c (ts ++ t ∷ [])) []) (any_append c ts t)
    ∙ before_last_by (c (node_kind t)) (list_any (λ s. c (node_kind s)) ts) s (before_last c (ts ++ t ∷ [])) ts (before_last c ts) (before_last_append c ts t)

-- the place of the last whose kind lies in a class, and the nodes before it
abbrev pub IsPlaceOfLast : Class → List Tree → Option ℕ → Type 0
IsPlaceOfLast c ts place = MatchOption place ([] ≡ before_last c ts) (λ i. (i < length ts) × (take i ts ≡ before_last c ts))

before_last_past : (c : Class) (t : Tree) (ts : List Tree) → c (node_kind t) ≡ false → before_last c ts ≡ before_last c (ts ++ t ∷ [])
before_last_past c t ts h = ap (λ v. cond v ts (before_last c ts)) (sym h) ∙ sym (before_last_append c ts t)

pub place-past : (c : Class) (t : Tree) (ts : List Tree) (place : Option ℕ) → c (node_kind t) ≡ false → IsPlaceOfLast c ts place → IsPlaceOfLast c (ts ++ t ∷ []) place
place-past c t ts None h s = s ∙ before_last_past c t ts h
place-past c t ts (Some i) h s =
    (omega (arith, s.0, length-append ts (t ∷ [])), take-append-le i ts (t ∷ []) (omega (arith, s.0)) ∙ s.1 ∙ before_last_past c t ts h)

pub place-found : (c : Class) (t : Tree) (ts : List Tree) → c (node_kind t) ≡ true → IsPlaceOfLast c (ts ++ t ∷ []) (Some (length ts))
place-found c t ts h = (
  omega (arith, length-append ts (t ∷ [])),
  take_at ts (t ∷ []) (length ts) refl ∙ ap (λ v. cond v ts (before_last c ts)) (sym h) ∙ sym (before_last_append c ts t),
)
