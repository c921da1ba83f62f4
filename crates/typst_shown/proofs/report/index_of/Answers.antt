use Rattle.std.proofs.Common.{◌≡◌, ◌==◌, length, sym, arith, eq-eqb}
use Rattle.std.proofs.lemmas.List.Sums.{position_or_len_is}
use Rattle.typst_shown.proofs.report.index_of.Goals as goal

pub returns-then-numbers-i : goal.returns-then-numbers-i
returns-then-numbers-i c =
    sym (position_or_len_is (λ x. x == c.args.number) c.args.numbers.now c.loop-i.i 0 (omega arith) c.loop-i.invariant (λ _. eq-eqb _ _ c.if-numbers-i.true))

pub returns : goal.returns
returns c =
    sym (position_or_len_is (λ x. x == c.args.number) c.args.numbers.now (length c.args.numbers.now) 0 (omega arith)
    (λ k below. c.loop-i.invariant k (omega (arith, below, c.loop-i-test.false))) (λ h. absurd (omega (arith, h))))
