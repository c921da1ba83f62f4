use Rattle.std.proofs.Common.{arith, ◌≡◌, ◌+◌, ◌-◌, ◌∷◌, ◌%◌, ◌^◌, ◌<◌, ◌≤◌, ℕ, length, get_or, refl, ap, ◌∙◌}
use Rattle.typst_node.specs.Ends.{moved, starts_in}
use Rattle.typst_node.specs.EndsLength.{length-ends_seen}
use Rattle.typst_node.proofs.Blocks.{rest_stays, rest_moves}
use Rattle.typst_node.proofs.ends.Ends.shift.Goals as goal

pub returns-then-from-len : goal.returns-then-from-len
returns-then-from-len c =
    let old = c.args.self.now in
    let new = c.add.new.self in
    let behind : (k : ℕ) → c.args.from ≤ k → k < length old → get_or new k 0 ≡ moved c.args.gone c.args.added (get_or old k 0) =
    λ k a b. c.add.ensures.behind k a b ∙ (λ i. (get_or old k 0 + (c.low.ensures i + (2 ^ 32 - c.low-then-from-len.ensures i)) % 2 ^ 32) % 2 ^ 32) in
    record {
      before = rest_stays old new c.args.from c.args.gone c.args.added c.add.ensures.len c.add.ensures.before behind;
      behind = rest_moves old new c.args.from c.args.gone c.args.added c.add.ensures.len c.add.ensures.before behind;
    }

pub returns-else-from-len : goal.returns-else-from-len
returns-else-from-len c =
    let old = c.args.self.now in
    let most : length old ≤ c.args.from = omega (arith, length-ends_seen (0 ∷ starts_in c.self.inside.starts) 0 c.self.inside.within.items, ap length c.self.view_is, c.if-from-len.false) in
    record {
      before = refl;
      behind = rest_moves old old c.args.from c.args.gone c.args.added refl (λ k a. refl) (λ k a b. absurd (omega (arith, most)));
    }
