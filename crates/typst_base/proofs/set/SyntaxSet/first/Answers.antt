use Rattle.typst_base.proofs.KindListLemmas.{IsFirstFlag, IsKindAt, first-held, first-lowest, first-none, first_flag-high, first_flag-low}
use Rattle.typst_base.proofs.set.SyntaxSet.first.Goals.{else-self-ne0, then-self-ne0}
use Rattle.typst_base.proofs.set.SyntaxSet.first.Goals as goal

pub returns : goal.returns
returns c =
    let low = c.self.inside.low in
    let high = c.self.inside.high in
    let number = c.if-self-ne0.number in
    let place : IsFirstFlag low high number = elim c.if-self-ne0.branch [
      | then-self-ne0 w ↦ rw w.number-is (first_flag-low low high w.if-self-ne0.true c.self.invariant.0)
      | else-self-ne0 w ↦ rw w.number-is (first_flag-high low high w.if-self-ne0.false c.self.invariant.1)
    ] in
    let at : IsKindAt number c.from_u8.result = record { of_its_number = c.from_u8.ensures.of_its_number; none = c.from_u8.ensures.none } in
    record {
      none = first-none c.args.self low high number c.self.view_is c.self.invariant.0 place c.from_u8.result at;
      held = first-held c.args.self low high number c.self.view_is c.self.invariant.0 place c.from_u8.result at;
      lowest = first-lowest c.args.self low high number c.self.view_is c.self.invariant.0 place c.from_u8.result at;
    }
