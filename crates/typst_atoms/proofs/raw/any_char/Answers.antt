use Rattle.std.proofs.Common.{rules, subst}
use Rattle.typst_atoms.proofs.Answered.{any_first, any_rest, all_first, all_none}
use Rattle.typst_atoms.proofs.raw.any_char.Goals as goal

pub returns-then-test : goal.returns-then-test
returns-then-test g c =
    c.loop-first.invariant.some (any_first _ _ _ _ c.in-Some.ensures.chars (subst (λ b. g.F.Fn.post c.args.test.now (c.in-Some.first, tt) b) c.if-test.true c.test.ensures))

pub loop-first-preserved : goal.loop-first-preserved
loop-first-preserved g c = record {
  text = search rules;
  some = λ h. c.loop-first.invariant.some (any_rest _ _ _ _ c.in-Some.ensures.chars h);
  none = λ h. c.loop-first.invariant.none (all_first _ _ _ _ c.in-Some.ensures.chars (subst (λ b. g.F.Fn.post c.args.test.now (c.in-Some.first, tt) b) c.if-test.false c.test.ensures) h);
}

pub returns : goal.returns
returns g c = c.loop-first.invariant.none (all_none _ _ c.in_default.ensures.chars)
