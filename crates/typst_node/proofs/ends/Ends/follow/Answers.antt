use Rattle.std.proofs.Common.{arith, ◌≡◌, ◌+◌, ◌-◌, ◌%◌, ◌^◌, ◌∷◌, ◌<◌, List, ℕ, length, set, get_or, ap, ◌∙◌}
use Rattle.std.proofs.lemmas.Grind.{get_or_default_zero}
use Rattle.typst_node.specs.Ends.{ends_seen, starts_in}
use Rattle.typst_node.specs.EndsLength.{length-ends_seen}
use Rattle.typst_node.proofs.Blocks.{seen-follow}
use Rattle.typst_node.proofs.ends.Ends.follow.Goals as goal

pub index-requires : goal.index-requires
index-requires c =
    omega (arith, length-ends_seen (0 ∷ starts_in c.self.inside.starts) 0 c.self.inside.within.items, ap length c.self.view_is, c.self.inside.within.ok)

pub index_mut-requires : goal.index_mut-requires
index_mut-requires c =
    omega (arith, length-ends_seen (0 ∷ starts_in c.self.inside.starts) 0 c.self.inside.within.items, ap length c.self.view_is, c.self.inside.within.ok)

pub returns-then-index-ne0 : goal.returns-then-index-ne0
returns-then-index-ne0 c =
    let starts : List ℕ = 0 ∷ starts_in c.self.inside.starts in
    let within = c.self.inside.within.items in
    let inside : c.args.index < length within = omega (arith, length-ends_seen starts 0 within, ap length c.self.view_is) in
    let item : c.index.result.now ≡ get_or within (c.args.index - 1) 0 = c.index.ensures ∙ get_or_default_zero within (c.args.index - 1) c.index.result.now (omega arith) in
    ap (λ n. ends_seen starts 0 (set within c.args.index ((n + c.args.len) % 2 ^ 32))) item
    ∙ (seen-follow starts within c.args.index c.args.len inside (omega (arith, c.if-index-ne0.true))
    ∙ ap (λ (es : List ℕ). set es c.args.index ((get_or (0 ∷ es) c.args.index 0 + c.args.len) % 2 ^ 32)) c.self.view_is)
