use Rattle.std.proofs.Common.{◌+◌, ◌-◌, ◌/◌, arith}
use Rattle.typst_linked.proofs.Child.{no_own_text}
use Rattle.typst_linked.proofs.Digits.{digits_half}
use Rattle.typst_linked.proofs.halving.first_ending.Goals as goal

pub loop-low-preserved-then-end-goal : goal.loop-low-preserved-then-end-goal
loop-low-preserved-then-end-goal c =
    let low = c.loop-low.low in
    let high = c.loop-low.high in
    let middle = low + (high - low) / 2 in
    record {
      ordered = omega arith;
      within = omega arith;
      begin = c.end_of-end.ensures.end;
      before = λ p. c.if-end-goal.true;
      behind = c.loop-low.invariant.behind;
      cost = omega (arith, digits_half (high - (middle + 1)) (high - low) (omega arith) (omega arith));
      few = omega arith;
      grows = omega arith;
      least = λ p. omega arith;
    }

pub loop-low-preserved : goal.loop-low-preserved
loop-low-preserved c =
    let low = c.loop-low.low in
    let high = c.loop-low.high in
    let middle = low + (high - low) / 2 in
    record {
      ordered = omega arith;
      within = omega arith;
      begin = c.loop-low.invariant.begin;
      before = c.loop-low.invariant.before;
      behind = λ p. omega (arith, c.end_of-end.ensures.end, c.if-end-goal.false);
      cost = omega (arith, digits_half (middle - low) (high - low) (omega arith) (omega arith));
      few = omega arith;
      grows = omega arith;
      least = λ p. omega arith;
    }

pub returns-then-low-count-clause-no_text : goal.returns-then-low-count-clause-no_text
returns-then-low-count-clause-no_text c = λ i t s. no_own_text c.args.node.now t i c.child_slice-count.result.now c.child_slice-count.ensures.children c.child_slice-count.ensures.inner_only s

pub returns-clause-no_text : goal.returns-clause-no_text
returns-clause-no_text c = λ i t s. no_own_text c.args.node.now t i c.child_slice-count.result.now c.child_slice-count.ensures.children c.child_slice-count.ensures.inner_only s
