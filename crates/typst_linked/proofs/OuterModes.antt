-- The mode after a node, from that after its parent.
use Rattle.std.proofs.Common.{◌≡◌, ℕ, suc, zero, ◌-◌, ◌≤◌, List, [], ◌∷◌, reverse, None, Some, refl, sym, ◌∙◌, ap, arith}
use Rattle.std.proofs.lemmas.List.{reverse-reverse}
use Rattle.typst_node.specs.Tree.{Tree}
use Rattle.typst_linked.specs.Place.{Place}
use Rattle.typst_linked.specs.Siblings.{before_it}
use Rattle.typst_linked.specs.Modes.{mode_from, mode_outwards, outer_mode, mode_behind, mode_behind_parent}

outwards : (root : Tree) (path : List ℕ) → mode_outwards root path ≡ mode_from (outer_mode root path) (record { root = root; path = reverse path })
outwards root [] = refl
outwards root (i ∷ path) = refl

-- one step of the definition
pub mode_step : (p : Place) → mode_from (mode_behind_parent p) p ≡ mode_behind p
mode_step p = sym (outwards p.root (reverse p.path) ∙ (λ x. mode_from (mode_behind_parent p) (record { root = p.root; path = reverse-reverse p.path x })))

-- a root has no parent
pub no_parent_mode : (p : Place) → p.path ≡ [] → None ≡ mode_behind_parent p
no_parent_mode p e = sym (ap (λ path. outer_mode p.root (reverse path)) e)

-- the index before
pub before_is : (i k : ℕ) (ts : List Tree) → 1 ≤ i → k ≡ i - 1 → before_it i ts ≡ Some k
before_is zero k ts h e = absurd (omega arith)
before_is (suc i) k ts h e =
    let same : i ≡ k = omega arith in
    ap Some same
