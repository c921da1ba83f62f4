use Rattle.std.proofs.Common.{length, ap, arith, inl, inr}
use Rattle.typst_node.specs.Tree.{trees}
use Rattle.typst_linked.specs.Part.{begin_at}
use Rattle.std.proofs.lemmas.Bool.{cases_lt}
use Rattle.typst_linked.proofs.Covers.{begin_at-le}
use Rattle.typst_page.proofs.windows.beginning_before.Goals as goal

pub returns-in-Some : goal.returns-in-Some
returns-in-Some c =
    let ts = trees c.args.node.now.children in
    let last = c.ending_by.result in
    let all = ap length c.child_slice.ensures.children in
    record {
      within = omega (arith, all);
      begins = λ m h. omega (arith, all, c.ending_by.ensures.ends, begin_at-le ts m last (omega (arith, all)));
      most = λ h.
          elim (cases_lt (begin_at ts c.min.result) c.args.byte) [
            | inl soon ↦ absurd (omega (arith, all, c.ending_by.ensures.most c.min.result (omega (arith, all)) (omega arith)))
            | inr late ↦ omega arith
          ];
    }
