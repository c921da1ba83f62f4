-- Trees whose numbers rise.
use Rattle.std.proofs.Common.{◌≡◌, ℕ, ◌<◌, inl, inr, List, Some, arith, sym, ap, ◌∙◌}
use Rattle.std.specs.Prelude.{slice_get}
use Rattle.std.proofs.lemmas.Bool.{cases_eq}
use Rattle.typst_node.specs.Tree.{Tree}
use Rattle.typst_node.specs.Labels.{number}
use Rattle.typst_linked.specs.Floor.{NumbersRise, AreAbove}

pub above_from : (ts : List Tree) (i wanted : ℕ) (t : Tree) → NumbersRise ts → slice_get ts i ≡ Some t → wanted < number t.label → AreAbove ts wanted i
above_from ts i wanted t rise s l k e le se = elim (cases_eq i k) [
  | inl same ↦
      let both : Some t ≡ Some e = sym s ∙ ap (slice_get ts) same ∙ se in
      let one : t ≡ e = cc in
      let n : number t.label ≡ number e.label = ap (λ (u : Tree). number u.label) one in
      omega arith
  | inr ne ↦ omega (arith, rise i k t e s se (omega arith))
]
