use Rattle.std.proofs.Common.{◌≡◌, ◌∙◌, ap, inl, inr, Some, arith}
use Rattle.std.specs.Prelude.{true}
use Rattle.std.proofs.lemmas.Bool.{cases_lt}
use Rattle.std.proofs.lemmas.Slice.Eq.{bytes_eq-Decides}
use Rattle.typst_base.specs.KindName.{name_of}
use Rattle.typst_base.specs.KindNumber.{number_of}
use Rattle.typst_session.proofs.kinds.kind_of_name.Goals as goal

pub loop-number-preserved : goal.loop-number-preserved
loop-number-preserved c kind below named =
    elim (cases_lt (number_of kind) c.loop-number.number) [
      | inl less ↦ c.loop-number.invariant kind less named
      | inr not_less ↦
          let here : number_of kind ≡ c.loop-number.number = omega (arith, not_less, below) in
          let is : c.from_u8.result ≡ Some kind = c.from_u8.ensures.of_its_number kind here in
          let same : c.in-Some.kind ≡ kind = cc in
          let bytes : c.as_bytes.result.now ≡ c.args.name.now =
          c.as_bytes.ensures.value ∙ (c.name.ensures ∙ (ap name_of same ∙ named)) in
          let equal : c.eq.result ≡ true =
          c.eq.ensures ∙ (bytes_eq-Decides c.as_bytes.result.now c.args.name.now).1 bytes in
          cc
    ]
