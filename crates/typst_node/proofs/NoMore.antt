-- What is picked out of a list of nodes is no more than the list.
use Rattle.std.proofs.Common.{◌≤◌, true, false, cond, List, [], ◌∷◌, length, arith}
use Rattle.typst_node.specs.Children.{all_in}
use Rattle.typst_node.specs.Tree.{Tree}
use Rattle.typst_node.specs.Views.{Class, node_kind}

pub no_more_in_class : (c : Class) (ts : List Tree) → length (all_in c ts) ≤ length ts
no_more_in_class c [] = omega arith
no_more_in_class c (t ∷ ts) =
    let h = no_more_in_class c ts in
    elim (c (node_kind t)) as (λ v. length (cond v (t ∷ all_in c ts) (all_in c ts)) ≤ length (t ∷ ts)) [ true ↦ omega arith | false ↦ omega arith ]
