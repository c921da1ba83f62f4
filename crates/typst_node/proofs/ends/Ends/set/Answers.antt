use Rattle.std.proofs.Common.{arith, ◌^◌, ◌∷◌, ◌<◌, List, ℕ, length, set, ap, ◌∙◌}
use Rattle.typst_node.specs.Ends.{starts_in}
use Rattle.typst_node.specs.EndsLength.{length-ends_seen}
use Rattle.typst_node.proofs.Blocks.{seen-write}
use Rattle.typst_node.proofs.ends.Ends.set.Goals as goal

pub start_of-start-requires : goal.start_of-start-requires
start_of-start-requires c =
    omega (
      arith,
      length-ends_seen (0 ∷ starts_in c.self.inside.starts) 0 c.self.inside.within.items,
      c.self.invariant.1,
      ap length c.self.view_is,
    )

pub index_mut-requires : goal.index_mut-requires
index_mut-requires c =
    omega (arith, length-ends_seen (0 ∷ starts_in c.self.inside.starts) 0 c.self.inside.within.items, ap length c.self.view_is, c.self.inside.within.ok)

pub returns : goal.returns
returns c =
    let starts : List ℕ = 0 ∷ starts_in c.self.inside.starts in
    let within = c.self.inside.within.items in
    let fits : c.start_of-start.result < 2 ^ 32 = omega arith in
    seen-write starts within c.args.index c.start_of-start.result c.args.end fits (omega arith) c.start_of-start.ensures ∙ ap (λ (es : List ℕ). set es c.args.index c.args.end) c.self.view_is
