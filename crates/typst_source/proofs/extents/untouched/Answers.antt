use Rattle.std.proofs.Common.{◌+◌, ◌<◌, ◌≤◌, length, arith, refl, ap, sym, subst}
use Rattle.typst_source.specs.Extents.{IsBeginning}
use Rattle.typst_source.specs.declared.extents.Beginning.{Beginning}
use Rattle.typst_source.proofs.Sums.{sums_more, reach_more, looked_at, nodes_parts, bytes_reach}
use Rattle.typst_source.proofs.extents.untouched.Goals as goal
use Rattle.typst_source.proofs.extents.untouched.Goals.{then-near-start, else-near-start}

pub loop-now-init : goal.loop-now-init
loop-now-init c =
    let es = c.args.extents.now in
    elim c.if-near-start.branch [
      | then-near-start w ↦
          let same = sym w.now-is in
          let is : IsBeginning c.args.extents.now c.if-near-start.now = subst (IsBeginning c.args.extents.now) same c.requires.near in
          let before : c.if-near-start.now.reach ≤ c.args.start = omega (arith, ap (λ (b : Beginning). b.reach) same, w.if-near-start.true) in
          record { is = is; before = before; inside = omega (arith, is.sums_are.bytes, is.reach_is, bytes_reach es c.if-near-start.now.sums.blocks c.requires.looked, before) }
      | else-near-start w ↦
          let same = sym w.now-is in
          record {
            is = subst (IsBeginning c.args.extents.now) same (record { sums_are = record { within = omega arith; bytes = refl; nodes = refl }; reach_is = refl });
            before = omega (arith, ap (λ (b : Beginning). b.reach) same);
            inside = omega (arith, ap (λ (b : Beginning). b.sums.bytes) same);
          }
    ]

pub overflow_add-now-in-loop-now-3 : goal.overflow_add-now-in-loop-now-3
overflow_add-now-in-loop-now-3 c =
    let s = sums_more c.args.extents.now c.loop-now.now.sums (record { bytes = 0; nodes = 0; reach = 0 }) c.loop-now.invariant.is.sums_are (omega arith) in
    omega (arith, s.nodes, nodes_parts c.args.extents.now (c.loop-now.now.sums.blocks + 1))

pub loop-now-preserved : goal.loop-now-preserved
loop-now-preserved c =
    let es = c.args.extents.now in
    let k = c.loop-now.now.sums.blocks in
    let some : k < length es = omega arith in
    let more = reach_more es k (record { bytes = 0; nodes = 0; reach = 0 }) c.requires.looked some in
    record {
      is = record {
        sums_are = sums_more es c.loop-now.now.sums (record { bytes = 0; nodes = 0; reach = 0 }) c.loop-now.invariant.is.sums_are some;
        reach_is = omega (arith, more, c.max.ensures, c.loop-now.invariant.is.reach_is, c.loop-now.invariant.is.sums_are.bytes);
      };
      before = omega (arith, c.max.ensures, c.loop-now.invariant.before);
      inside = omega (arith, looked_at es k (record { bytes = 0; nodes = 0; reach = 0 }) c.requires.looked some);
    }

pub returns-else-extents-now-clause-untouched : goal.returns-else-extents-now-clause-untouched
returns-else-extents-now-clause-untouched c = record {
  sums_are = c.loop-now.invariant.is.sums_are;
  before = omega (arith, c.loop-now.invariant.is.reach_is, c.loop-now.invariant.before);
  most = λ more. omega (arith, reach_more c.args.extents.now c.loop-now.now.sums.blocks (record { bytes = 0; nodes = 0; reach = 0 }) c.requires.looked more, c.loop-now.invariant.is.sums_are.bytes, c.if-extents-now.false);
}
