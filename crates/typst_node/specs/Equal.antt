-- Equality of trees as a test. The lemmas stand here since the laws of a trait cite them.
use Rattle.std.specs.Prelude.{◌≡◌, Bool, true, false, ◌&&◌, ◌==◌, refl}
use Rattle.std.proofs.Common.{ap, sym, ◌∙◌, eq-eqb}
use Rattle.std.specs.Cmp.{IsEquivalence, IsPartialEquivalence, partial_equiv_from_equiv, both_ways}
use base.Stored.{Gv, gnil, gnum, gcons}
use Rattle.typst_node.specs.Tree.{Tree}
use Rattle.typst_node.specs.Codes.{tree_code}

-- whether two codes of trees are the same
unfoldable pub gv_eq : Gv → Gv → Bool
gv_eq gnil gnil = true
gv_eq gnil (gnum n) = false
gv_eq gnil (gcons a b) = false
gv_eq (gnum m) gnil = false
gv_eq (gnum m) (gnum n) = m == n
gv_eq (gnum m) (gcons a b) = false
gv_eq (gcons a b) gnil = false
gv_eq (gcons a b) (gnum n) = false
gv_eq (gcons a b) (gcons c d) = gv_eq a c && gv_eq b d

-- each code passes the test with itself
pub gv_eq_refl : (x : Gv) → gv_eq x x ≡ true
unfolding gv_eq
gv_eq_refl gnil = refl
gv_eq_refl (gnum n) = eq-eqb n n refl
gv_eq_refl (gcons a b) = λ i. gv_eq_refl a i && gv_eq_refl b i

and_left : (a b : Bool) → (a && b) ≡ true → a ≡ true
and_left true b e = refl
and_left false b e = e

and_right : (a b : Bool) → (a && b) ≡ true → b ≡ true
and_right true b e = e
and_right false b e = cc

-- codes that pass the test are equal
pub gv_same : (x y : Gv) → gv_eq x y ≡ true → x ≡ y
unfolding gv_eq
gv_same gnil gnil e = refl
gv_same gnil (gnum n) e = cc
gv_same gnil (gcons a b) e = cc
gv_same (gnum m) gnil e = cc
gv_same (gnum m) (gnum n) e = ap gnum (Rattle.std.proofs.lemmas.Bool.eqb-true m n e)
gv_same (gnum m) (gcons a b) e = cc
gv_same (gcons a b) gnil e = cc
gv_same (gcons a b) (gnum n) e = cc
gv_same (gcons a b) (gcons c d) e = λ i. gcons (gv_same a c (and_left _ _ e) i) (gv_same b d (and_right _ _ e) i)

-- whether two trees are the same
unfoldable pub tree_eq : Tree → Tree → Bool
tree_eq t u = gv_eq (tree_code.code t) (tree_code.code u)

-- trees that pass the test are equal
pub tree_same : (t u : Tree) → tree_eq t u ≡ true → t ≡ u
unfolding tree_eq
tree_same t u e = tree_code.inj t u (gv_same (tree_code.code t) (tree_code.code u) e)

-- equal trees pass the test
pub tree_eq_same : (t u : Tree) → t ≡ u → tree_eq t u ≡ true
unfolding tree_eq
tree_eq_same t u e = ap (λ v. gv_eq (tree_code.code t) (tree_code.code v)) (sym e) ∙ gv_eq_refl (tree_code.code t)

-- equality of trees is an equivalence, as `Eq` requires
pub tree_eq_equivalence : IsEquivalence tree_eq
tree_eq_equivalence = record {
  refl = λ t. tree_eq_same t t refl;
  symm = λ t u. both_ways (tree_eq t u) (tree_eq u t) (λ e. tree_eq_same u t (sym (tree_same t u e))) (λ e. tree_eq_same t u (sym (tree_same u t e)));
  congr = λ t u v e. ap (λ w. tree_eq w v) (tree_same t u e);
}

-- equality of trees is symmetric and transitive, as `PartialEq` requires
pub tree_eq_laws : IsPartialEquivalence tree_eq
tree_eq_laws = partial_equiv_from_equiv tree_eq_equivalence
