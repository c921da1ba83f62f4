-- A list of nodes with one more at its end.
use Rattle.std.proofs.Common.{◌≡◌, Bool, true, false, cond, List, [], ◌∷◌, ◌++◌, Option, Some, refl, ap, ◌∙◌, append-nil}
use Rattle.std.specs.List.{last_or}
use Rattle.typst_node.specs.Children.{all_in, last_of}
use Rattle.typst_node.specs.Tree.{Tree}
use Rattle.typst_node.specs.Views.{Class, node_kind}

last_or_append : {A : Type 0} (o : Option A) (xs : List A) (x : A) → last_or o (xs ++ x ∷ []) ≡ Some x
last_or_append o [] x = refl
last_or_append o (y ∷ xs) x = last_or_append (Some y) xs x

pub last_of_append : {A : Type 0} (xs : List A) (x : A) → last_of (xs ++ x ∷ []) ≡ Some x
last_of_append xs x = last_or_append _ xs x

-- the last of those nodes whose kind lies in a class
all_in_append : (c : Class) (ts : List Tree) (t : Tree) → all_in c (ts ++ t ∷ []) ≡ all_in c ts ++ cond (c (node_kind t)) (t ∷ []) []
all_in_append c [] t = refl
all_in_append c (s ∷ ts) t =
    elim (c (node_kind s)) as (λ v. cond v (s ∷ all_in c (ts ++ t ∷ [])) (all_in c (ts ++ t ∷ [])) ≡ cond v (s ∷ all_in c ts) (all_in c ts) ++ cond (c (node_kind t)) (t ∷ []) []) [
      | true ↦ ap (λ xs. s ∷ xs) (all_in_append c ts t)
      | false ↦ all_in_append c ts t
    ]

last_or_cond : (v : Bool) (ts : List Tree) (t : Tree) → last_of (ts ++ cond v (t ∷ []) []) ≡ cond v (Some t) (last_of ts)
last_or_cond true ts t = last_of_append ts t
last_or_cond false ts t = ap last_of (append-nil ts)

pub last_in_append : (c : Class) (ts : List Tree) (t : Tree) → last_of (all_in c (ts ++ t ∷ [])) ≡ cond (c (node_kind t)) (Some t) (last_of (all_in c ts))
last_in_append c ts t = ap last_of (all_in_append c ts t) ∙ last_or_cond (c (node_kind t)) (all_in c ts) t
