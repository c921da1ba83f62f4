use Rattle.std.proofs.Common.{◌≡◌, suc, ◌-◌, ◌<◌, ap, drop, length, reverse, subst, sym, ◌∙◌, arith}
use Rattle.typst_parser.specs.Unique.{faults_of}
use Rattle.typst_parser.proofs.Seen.{Saw, more_faults, saw_next, views}
use Rattle.typst_parser.proofs.unique.faults_of.Goals as goal

pub loop-left-preserved : goal.loop-left-preserved
loop-left-preserved c =
    let all = c.args.found.now in
    let left = c.loop-left.left in
    let seen = c.loop-left.seen in
    let faults = c.loop-left.faults.items in
    let before : suc (left - 1) ≡ left = omega (arith, c.loop-left-test.true) in
    let within : left - 1 < length all = omega (arith, c.loop-left-test.true, c.loop-left.invariant.within) in
    let saw : Saw seen (drop (suc (left - 1)) all) = subst (λ n. Saw seen (drop n all)) (sym before) c.loop-left.invariant.saw in
    let so_far : reverse faults ≡ faults_of (views (drop (suc (left - 1)) all)) = subst (λ n. reverse faults ≡ faults_of (views (drop n all))) (sym before) c.loop-left.invariant.so_far in
    record {
      within = omega (arith, within);
      saw = saw_next seen c.see_any.new.seen all (left - 1) _ within saw c.in_ok-see_any.ensures.seen;
      so_far = ap reverse c.in_ok-push.ensures.items ∙ more_faults seen all (left - 1) _ faults c.in_ok-see_any.field-0 within saw so_far c.in_ok-see_any.ensures.fault;
    }
