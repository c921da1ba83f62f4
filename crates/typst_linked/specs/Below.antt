-- The children of a place that an iterator still has to give: those from one index up to another.
use Rattle.std.specs.Prelude.{ℕ, refl}
use Rattle.std.specs.Coded.{Coded, code_by, coded×, coded_ℕ}
use Rattle.typst_linked.specs.Place.{Place, place_code}

-- the parent's place, the index of the first child that is left, and the index after the last one
pub record Below : Type 0 where
  pub parent : Place
  pub from : ℕ
  pub to : ℕ

-- the code that tells these apart in proofs
abbrev pub below_code : Coded Below
below_code =
    code_by (Place × (ℕ × ℕ)) (coded× place_code (coded× coded_ℕ coded_ℕ)) (λ b. (b.parent, (b.from, b.to))) (λ p. record { parent = p.0; from = p.1.0; to = p.1.1 }) (λ _. refl)
