use Rattle.std.proofs.Common.{◌≡◌, ◌∙◌, ◌+◌, ◌<◌, ◌==◌, length, take, get_or, arith}
use Rattle.typst_shown.specs.Report.{differing}
use Rattle.typst_shown.proofs.Windows.{at_most_one, differing_all, differing_few, differing_more}
use Rattle.typst_shown.proofs.report.count_differing.Goals as goal

pub overflow_add-sum : goal.overflow_add-sum
overflow_add-sum c =
    let xs = c.args.before.now in
    let ys = c.args.after.now in
    let i = c.loop-i.i in
    let so_far : c.loop-i.sum ≡ differing (take i xs) (take i ys) = c.loop-i.invariant in
    omega (arith, so_far, differing_few xs ys i, c.differ-sum.ensures, at_most_one (get_or xs i 0 == get_or ys i 0), c.loop-i-test.true, c.min-i-end.type_inv)

pub loop-i-preserved : goal.loop-i-preserved
loop-i-preserved c =
    let xs = c.args.before.now in
    let ys = c.args.after.now in
    let i = c.loop-i.i in
    let so_far : c.loop-i.sum ≡ differing (take i xs) (take i ys) = c.loop-i.invariant in
    let inside : i < length xs = omega (arith, c.loop-i-test.true, c.min-i-end.ensures) in
    let within : i < length ys = omega (arith, c.loop-i-test.true, c.min-i-end.ensures) in
    let more : c.loop-i.sum + c.differ-sum.result ≡ differing (take (i + 1) xs) (take (i + 1) ys) =
    omega (arith, so_far, differing_more xs ys i inside within, c.differ-sum.ensures) in
    more

pub returns : goal.returns
returns c =
    c.loop-i.invariant
    ∙ differing_all c.args.before.now c.args.after.now c.loop-i.i (omega (arith, c.loop-i-test.false, c.loop-i.auto.i-end, c.min-i-end.ensures))
