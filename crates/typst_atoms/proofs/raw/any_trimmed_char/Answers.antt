use Rattle.typst_atoms.proofs.Answered.{any_part, any_behind, all_parts, all_none, when_true, when_false}
use Rattle.typst_atoms.proofs.raw.any_trimmed_char.Goals as goal

pub returns-then-any_char : goal.returns-then-any_char
returns-then-any_char g c =
    c.loop-text.invariant.some (any_part _ _ _ _ c.in-Some.ensures.chars (when_true _ _ _ c.if-any_char.true c.any_char.ensures))

pub loop-text-preserved : goal.loop-text-preserved
loop-text-preserved g c = record {
  some = λ h. c.loop-text.invariant.some (any_behind _ _ _ _ c.in-Some.ensures.chars h);
  none = λ h. c.loop-text.invariant.none (all_parts _ _ _ _ c.in-Some.ensures.chars (when_false _ _ _ c.if-any_char.false c.any_char.ensures) h);
}

pub returns : goal.returns
returns g c = c.loop-text.invariant.none (all_none _ _ c.in_default.ensures.chars)
