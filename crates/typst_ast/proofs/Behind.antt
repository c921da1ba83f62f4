-- The second and the third of a class, by what comes after the first.
use Rattle.std.proofs.Common.{◌≡◌, true, false, cond, List, [], ◌∷◌, refl}
use Rattle.typst_ast.specs.Lists.{third_of}
use Rattle.typst_node.specs.Children.{all_in, behind_first, first_of, second_of}
use Rattle.typst_node.specs.Tree.{Tree}
use Rattle.typst_node.specs.Views.{Class, node_kind}

pub second_of-behind : (c : Class) (ts : List Tree) → second_of (all_in c ts) ≡ first_of (all_in c (behind_first c ts))
second_of-behind c [] = refl
second_of-behind c (t ∷ ts) =
    elim (c (node_kind t)) as (λ v. second_of (cond v (t ∷ all_in c ts) (all_in c ts)) ≡ first_of (all_in c (cond v ts (behind_first c ts)))) [
      | true ↦ refl
      | false ↦ second_of-behind c ts
    ]

pub third_of-behind : (c : Class) (ts : List Tree) → third_of (all_in c ts) ≡ first_of (all_in c (behind_first c (behind_first c ts)))
third_of-behind c [] = refl
third_of-behind c (t ∷ ts) =
    elim (c (node_kind t)) as (λ v. third_of (cond v (t ∷ all_in c ts) (all_in c ts)) ≡ first_of (all_in c (behind_first c (cond v ts (behind_first c ts))))) [
      | true ↦ second_of-behind c ts
      | false ↦ third_of-behind c ts
    ]
