use Rattle.std.proofs.Common.{arith, ◌/◌, ◌≤◌, ◌∷◌, ℕ, length, take, ap, ◌∙◌}
use Rattle.typst_node.specs.Ends.{ends_seen, starts_in}
use Rattle.typst_node.proofs.Blocks.{seen_cut}
use Rattle.typst_node.proofs.ends.+keep.Goals as goal

pub Ends::truncate-returns : goal.Ends::truncate-returns
Ends::truncate-returns t c =
    let starts = starts_in c.self.inside.starts in
    let within = c.self.inside.within.items in
    let blocks : ℕ = c.len-blocks.result / 256 in
    let enough : length (take c.args.many within) / 256 ≤ blocks = omega (arith, ap length c.truncate.ensures.items, c.truncate.new.self.ok, c.len-blocks.ensures) in
    (λ i. ends_seen (0 ∷ c.keep.ensures.is i) 0 (c.truncate.ensures.items i))
    ∙ (seen_cut starts within c.args.many blocks enough ∙ ap (take c.args.many) c.self.view_is)
