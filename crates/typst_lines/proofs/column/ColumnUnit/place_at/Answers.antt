use Rattle.std.proofs.Common.{◌≡◌, ◌<◌, true, get_or, length, arith}
use Rattle.std.proofs.lemmas.Bool.Decides.{nat_tests}
use Rattle.std.proofs.lemmas.List.Sums.{sum_by_more}
use Rattle.typst_lines.specs.Columns.{width, goes_on}
use Rattle.typst_lines.proofs.Widths.{none_here, none_there}
use Rattle.typst_lines.proofs.column.ColumnUnit.place_at.Goals as goal
use Rattle.typst_lines.proofs.column.ColumnUnit.place_at.Goals.{else-left-eq0-via-then-left-eq0+else-not-goes_on, else-left-eq0-via-else-left-eq0}

pub returns-then-left-width : goal.returns-then-left-width
returns-then-left-width c = λ k h e.
    let xs = c.args.bytes.now in
    let less : c.loop-at.at < length c.args.bytes.now = omega arith in
    let here : c.loop-at.left ≡ 0 → goes_on (get_or c.args.bytes.now c.loop-at.at 0) ≡ true = elim c.else-left-eq0.branch [
      | else-left-eq0-via-then-left-eq0+else-not-goes_on w ↦ λ z. grind (arith, nat_tests)
      | else-left-eq0-via-else-left-eq0 w ↦ λ z. absurd (omega arith)
    ] in
    none_there c.args.self xs c.loop-at.at c.loop-at.left c.args.column k less c.loop-at.invariant.passed c.loop-at.invariant.none here (omega (arith, c.width-width.ensures, c.if-left-width.true)) h e

pub loop-at-preserved : goal.loop-at-preserved
loop-at-preserved c =
    let xs = c.args.bytes.now in
    let less : c.loop-at.at < length c.args.bytes.now = omega arith in
    let here : c.loop-at.left ≡ 0 → goes_on (get_or c.args.bytes.now c.loop-at.at 0) ≡ true = elim c.else-left-eq0.branch [
      | else-left-eq0-via-then-left-eq0+else-not-goes_on w ↦ λ z. grind (arith, nat_tests)
      | else-left-eq0-via-else-left-eq0 w ↦ λ z. absurd (omega arith)
    ] in
    record {
      passed = omega (arith, sum_by_more (width c.args.self) xs c.loop-at.at 0 less, c.width-width.ensures, c.loop-at.invariant.passed);
      none = λ k l h e. none_here c.args.self xs c.loop-at.at c.loop-at.left c.args.column k less c.loop-at.invariant.passed c.loop-at.invariant.none here l h e;
    }
