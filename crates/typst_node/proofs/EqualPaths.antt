-- Whether two paths are the same.
use Rattle.std.proofs.Common.{◌≡◌, ℕ, inl, inr, List, [], ◌∷◌, map, Bool, false, refl, ◌∙◌, ap, eq-eqb}
use Rattle.std.specs.Prelude.{◌&&◌}
use Rattle.std.specs.List.{list_any}
use Rattle.std.proofs.lemmas.Bool.Decides.{eqb_tells}
use Rattle.typst_node.specs.Text.{is_same_path}
use Rattle.typst_node.proofs.FirstThatPasses.{list_any-map}

-- below the same first step
pub same_below : (i : ℕ) (q p : List ℕ) → is_same_path (i ∷ q) (i ∷ p) ≡ is_same_path q p
same_below i q p = rw (eq-eqb i i refl) refl

-- below another first step
pub differ_below : (i k : ℕ) (q p : List ℕ) → (i ≡ k → ⊥) → is_same_path (i ∷ q) (k ∷ p) ≡ false
differ_below i k q p h = elim (eqb_tells i k) [
  | inl e ↦ absurd (h e.1)
  | inr e ↦ ap (λ b. b && is_same_path q p) e.0
]

pub none_below : (i k : ℕ) (q : List ℕ) (ps : List (List ℕ)) → (i ≡ k → ⊥) → list_any (is_same_path (i ∷ q)) (map (λ p. k ∷ p) ps) ≡ false
none_below i k q [] h = refl
none_below i k q (p ∷ ps) h = rw (differ_below i k q p h) (none_below i k q ps h)

pub any_below : (i : ℕ) (q : List ℕ) (ps : List (List ℕ)) → list_any (is_same_path (i ∷ q)) (map (λ p. i ∷ p) ps) ≡ list_any (is_same_path q) ps
any_below i q ps = list_any-map (is_same_path (i ∷ q)) (λ p. i ∷ p) ps ∙ ap (λ (f : List ℕ → Bool). list_any f ps) (λ x p. same_below i q p x)
