use Rattle.std.specs.Bool.{one_answer}
use Rattle.typst_base.specs.Equal.{set_same}
use Rattle.typst_base.proofs.SetWords.{by_high_word, by_low_word}
use Rattle.typst_base.proofs.set.SyntaxSetPartialEq.eq.Goals as goal

pub returns-then-self-other-clause-is : goal.returns-then-self-other-clause-is
returns-then-self-other-clause-is c =
    one_answer _ _ (by_high_word _ _ _ _ _ _ c.self.invariant c.other.invariant c.self.view_is c.other.view_is c.if-self-other.true) (set_same _ _)

pub returns-then-self-other-clause-same : goal.returns-then-self-other-clause-same
returns-then-self-other-clause-same c =
    by_high_word _ _ _ _ _ _ c.self.invariant c.other.invariant c.self.view_is c.other.view_is c.if-self-other.true

pub returns-else-self-other-clause-is : goal.returns-else-self-other-clause-is
returns-else-self-other-clause-is c =
    one_answer _ _ (by_low_word _ _ _ _ _ _ c.self.invariant c.other.invariant c.self.view_is c.other.view_is c.if-self-other.false) (set_same _ _)

pub returns-else-self-other-clause-same : goal.returns-else-self-other-clause-same
returns-else-self-other-clause-same c =
    by_low_word _ _ _ _ _ _ c.self.invariant c.other.invariant c.self.view_is c.other.view_is c.if-self-other.false
