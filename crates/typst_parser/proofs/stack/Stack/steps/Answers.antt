use Rattle.std.proofs.Common.{◌+◌, length, ◌∙◌, sym}
use Rattle.typst_parser.specs.View.{stack_of, table_of}
use Rattle.typst_parser.proofs.Loops.{step_goes_on, step_stops}
use Rattle.typst_parser.proofs.stack.Stack.steps.Goals as goal

pub loop-preserved : goal.loop-preserved
loop-preserved c =
    let t = table_of c.args.table.now in
    let text = c.args.text.now in
    step_goes_on (length text + 1) c.loop.counter t text (stack_of c.loop.self) (stack_of c.step.new.self) _ c.loop.invariant c.loop-test.true
    c.in_ok-step.ensures (sym c.is_taken.ensures ∙ c.if-not-is_taken.false)

pub returns : goal.returns
returns c =
    let t = table_of c.args.table.now in
    let s = stack_of c.loop.self in
    step_stops (length c.args.text.now + 1) c.loop.counter t c.args.text.now s s _ c.loop.invariant c.loop-test.false
