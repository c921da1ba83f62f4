use Rattle.std.proofs.Common.{◌+◌, length, ◌-◌, ◌/◌, arith, refl, sym}
use Rattle.std.proofs.lemmas.Option.{slice_get_read}
use Rattle.typst_linked.proofs.Digits.{digits_half}
use Rattle.typst_linked.proofs.Rising.{above_from}
use Rattle.typst_linked.proofs.halving.last_up_to.Goals as goal

pub loop-low-preserved-then-number-wanted : goal.loop-low-preserved-then-number-wanted
loop-low-preserved-then-number-wanted c =
    let low = c.loop-low.low in
    let high = c.loop-low.high in
    let middle = low + (high - low) / 2 in
    record {
      ordered = omega arith;
      within = omega arith;
      behind = refl;
      found = (c.if-number-wanted.true, (c.index-nodes-middle.result, slice_get_read c.args.nodes.now (length c.args.nodes.now) middle c.index-nodes-middle.result refl (omega arith) c.index-nodes-middle.is, sym c.number_of-number.ensures.number));
      later = c.loop-low.invariant.later;
      cost = omega (arith, digits_half (high - (middle + 1)) (high - low) (omega arith) (omega arith));
      few = omega arith;
      least = omega arith;
      grows = omega arith;
    }

pub loop-low-preserved : goal.loop-low-preserved
loop-low-preserved c =
    let low = c.loop-low.low in
    let high = c.loop-low.high in
    let middle = low + (high - low) / 2 in
    record {
      ordered = omega arith;
      within = omega arith;
      behind = c.loop-low.invariant.behind;
      found = c.loop-low.invariant.found;
      later = λ rise. above_from c.args.nodes.now middle c.args.wanted c.index-nodes-middle.result rise (slice_get_read c.args.nodes.now (length c.args.nodes.now) middle c.index-nodes-middle.result refl (omega arith) c.index-nodes-middle.is) (omega arith);
      cost = omega (arith, digits_half (middle - low) (high - low) (omega arith) (omega arith));
      few = omega arith;
      least = grind arith;
      grows = omega arith;
    }
