use Rattle.std.proofs.Common.{arith, length, ◌≤◌}
use Rattle.std.proofs.lemmas.Grind.{common_steps}
use Rattle.typst_session.specs.Reading.{IsInfo}
use Rattle.typst_session.proofs.Listed.{told_next}
use Rattle.typst_session.proofs.listing.write_all.Goals as goal

pub loop-at-preserved : goal.loop-at-preserved
loop-at-preserved c =
    let room : length c.args.nodes.now ≤ length c.loop-at.out = omega (arith, c.requires, c.loop-at.auto.out) in (
      told_next IsInfo c.args.nodes.now c.loop-at.out c.loop-at.at c.index-nodes-at.result c.of.result c.loop-at-test.true room c.index-nodes-at.is c.loop-at.invariant.0 c.of.ensures,
      grind (arith, common_steps),
    )
