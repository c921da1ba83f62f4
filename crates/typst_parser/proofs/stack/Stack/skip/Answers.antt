use Rattle.std.proofs.Common.{length, take, ◌∙◌, sym, ap, subst}
use Rattle.typst_lexer.specs.LoneBlank.{IsLone}
use Rattle.typst_parser.specs.Reads.{whitened}
use Rattle.typst_parser.specs.View.{stack_of}
use Rattle.typst_parser.proofs.Loops.{skip_ends, skip_goes_on, skip_stops}
use Rattle.typst_parser.proofs.Whites.{lone_skipped}
use Rattle.typst_parser.proofs.stack.Stack.skip.Goals as goal

pub loop-preserved : goal.loop-preserved
loop-preserved c =
    let text = c.args.text.now in
    let s = stack_of c.loop.self in
    skip_goes_on (length text) c.loop.counter c.args.mode text s _ c.loop.invariant (stack_of c.whiten.new.self) c.loop-test.true
    (sym c.is_white_at.ensures ∙ c.if-not-is_white_at.false)
    (c.in_ok-whiten.ensures ∙ ap (λ o. whitened text o s) c.token_at-token.ensures.token)

pub returns : goal.returns
returns c = skip_stops (length c.args.text.now) c.loop.counter c.args.mode c.args.text.now (stack_of c.loop.self) _ c.loop.invariant c.loop-test.false

pub returns-in-Some : goal.returns-in-Some
returns-in-Some c =
    c.in_ok-whiten_byte.ensures
    ∙ sym (lone_skipped c.args.mode c.args.text.now (stack_of c.args.self.now) c.in-Some.byte (subst IsLone c.rest_at.ensures c.in-Some.ensures.lone) (ap (take 1) (sym c.rest_at.ensures) ∙ c.in-Some.ensures.byte))

pub returns-then-not-is_white_at : goal.returns-then-not-is_white_at
returns-then-not-is_white_at c =
    skip_ends (length c.args.text.now) c.loop.counter c.args.mode c.args.text.now (stack_of c.loop.self) _ c.loop.invariant c.loop-test.true
    (sym c.is_white_at.ensures ∙ c.if-not-is_white_at.true)
