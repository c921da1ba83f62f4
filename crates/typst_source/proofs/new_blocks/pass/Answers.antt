use Rattle.std.proofs.Common.{◌≡◌, ◌+◌, ◌<◌, inl, inr, length, drop, arith, sym, subst}
use Rattle.std.proofs.lemmas.Bool.{cases_lt}
use Rattle.typst_source.specs.Extents.{bytes_in}
use Rattle.typst_source.proofs.Sums.{bytes_parts, nodes_parts, some_left, sums_more}
use Rattle.typst_source.proofs.new_blocks.pass.Goals as goal

pub overflow_add-now-in-loop-now : goal.overflow_add-now-in-loop-now
overflow_add-now-in-loop-now c =
    let es = c.args.olds.now.extents.now in
    let now = c.loop-now.now in
    let some : now.blocks < length es = some_left es now.blocks (omega (arith, bytes_parts es now.blocks, c.loop-now.invariant.sums.bytes)) in
    let s = sums_more es now (record { bytes = 0; nodes = 0; reach = 0 }) c.loop-now.invariant.sums some in
    omega (arith, s.bytes, bytes_parts es (now.blocks + 1))

pub overflow_add-now-in-loop-now-2 : goal.overflow_add-now-in-loop-now-2
overflow_add-now-in-loop-now-2 c =
    let es = c.args.olds.now.extents.now in
    let now = c.loop-now.now in
    let some : now.blocks < length es = some_left es now.blocks (omega (arith, bytes_parts es now.blocks, c.loop-now.invariant.sums.bytes)) in
    let s = sums_more es now (record { bytes = 0; nodes = 0; reach = 0 }) c.loop-now.invariant.sums some in
    omega (arith, s.nodes, nodes_parts es (now.blocks + 1))

pub loop-now-preserved : goal.loop-now-preserved
loop-now-preserved c =
    let es = c.args.olds.now.extents.now in
    let now = c.loop-now.now in
    let some : now.blocks < length es = some_left es now.blocks (omega (arith, bytes_parts es now.blocks, c.loop-now.invariant.sums.bytes)) in
    record {
      sums = sums_more es now (record { bytes = 0; nodes = 0; reach = 0 }) c.loop-now.invariant.sums some;
      skipped = λ k from to. elim (cases_lt k now.blocks) as (λ _. c.args.left < bytes_in (drop k es)) [
        | inl less ↦ c.loop-now.invariant.skipped k from less
        | inr same ↦ let is : k ≡ now.blocks = omega arith in subst (λ i. c.args.left < bytes_in (drop i es)) (sym is) (omega (arith, bytes_parts es now.blocks, c.loop-now.invariant.sums.bytes))
      ];
    }

pub overflow_sub-olds : goal.overflow_sub-olds
overflow_sub-olds c = omega (arith, bytes_parts c.args.olds.now.extents.now c.loop-now.now.blocks, c.loop-now.invariant.sums.bytes, c.requires.bytes)

pub returns-clause-left : goal.returns-clause-left
returns-clause-left c = omega (arith, bytes_parts c.args.olds.now.extents.now c.loop-now.now.blocks, c.loop-now.invariant.sums.bytes, c.requires.bytes)
