use Rattle.std.proofs.Common.{ℕ, ◌-◌, ap, ◌∙◌, arith}
use Rattle.typst_session.specs.Classes.{is_of}
use Rattle.typst_session.proofs.Picked.{picked_back}
use Rattle.typst_session.proofs.classes.index_from_end.Goals as goal

pub returns : goal.returns
returns c =
    let there = c.in_ok-at.ensures.0 in
    let before = c.in_ok-at.ensures.1 ∙ ap (λ (n : ℕ). n - 1 - c.args.behind) c.count_of-count.ensures in
    record {
      there = there;
      others = picked_back (is_of c.args.class) c.args.nodes.now c.in_ok-at.at c.args.behind there (omega (arith, c.if-count-behind.false, c.count_of-count.ensures)) before;
    }
