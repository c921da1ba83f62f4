use Rattle.std.proofs.Common.{arith, ◌<◌, ◌-◌, ◌/◌, ◌^◌, ◌∷◌, List, ℕ, length, get_or, replicate, ap, ◌∙◌}
use Rattle.typst_node.specs.Ends.{ends_seen}
use Rattle.typst_node.proofs.Blocks.{seen_plain, none_begins}
use Rattle.typst_node.proofs.ends.Ends.new.Goals as goal

pub returns : goal.returns
returns c =
    let fits : (k d : ℕ) → k < length c.args.ends.items → get_or c.args.ends.items k d < 2 ^ 32 = λ k d h. omega arith in
    let blocks : ℕ = c.len.result / 256 - 0 in
    ap (λ (starts : List ℕ). ends_seen (0 ∷ starts) 0 c.args.ends.items) c.in_ok-grow.ensures.ok ∙ seen_plain (0 ∷ replicate blocks 0) 0 c.args.ends.items (none_begins blocks) fits
