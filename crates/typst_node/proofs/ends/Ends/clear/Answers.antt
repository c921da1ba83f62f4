use Rattle.std.proofs.Common.{arith, ◌∷◌, length, ap}
use Rattle.typst_node.specs.Ends.{starts_in}
use Rattle.typst_node.specs.EndsLength.{length-ends_seen}
use Rattle.typst_node.proofs.Blocks.{cleared}
use Rattle.typst_node.proofs.ends.Ends.clear.Goals as goal

pub set-requires : goal.set-requires
set-requires c =
    omega (arith, length-ends_seen (0 ∷ starts_in c.self.inside.starts) 0 c.self.inside.within.items, ap length c.self.view_is, c.self.inside.within.ok, c.loop-place.invariant.many)

pub returns : goal.returns
returns c =
    let many = length-ends_seen (0 ∷ starts_in c.self.inside.starts) 0 c.self.inside.within.items in
    cleared c.args.self.now c.loop-place.self c.args.from c.requires c.loop-place.invariant.many c.loop-place.invariant.kept
    (λ k a b. c.loop-place.invariant.cleared k a (omega (arith, many, ap length c.self.view_is, c.self.inside.within.ok)))
