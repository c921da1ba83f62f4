use Rattle.std.proofs.Common.{arith}
use Rattle.typst_lines.proofs.Seamed.{reseamed}
use Rattle.typst_lines.proofs.place.reseam.Goals as goal

pub returns : goal.returns
returns c = λ within.
    reseamed c.args.kept.now c.loop-k.kept c.args.seam c.args.at c.args.end c.requires.seam c.requires.inside c.loop-k.auto.kept c.loop-k.invariant.before
    (λ j l u. c.loop-k.invariant.between j l (omega arith)) (λ j l. c.loop-k.invariant.behind j (omega arith)) within
