use Rattle.std.proofs.Common.{◌∙◌, sym}
use Rattle.typst_parser.specs.View.{stack_of, table_of}
use Rattle.typst_parser.proofs.Loops.{look_ends, look_goes_on, look_stops}
use Rattle.typst_parser.proofs.stack.Stack.step.Goals as goal

pub loop-preserved : goal.loop-preserved
loop-preserved c =
    let t = table_of c.args.table.now in
    look_goes_on t.most_looks c.loop.counter t c.args.text.now (stack_of c.loop.self) (stack_of c.look.new.self) _ c.loop.invariant c.loop-test.true
    c.in_ok-look.ensures (sym c.is_looking.ensures ∙ c.if-not-is_looking.false)

pub returns-then-not-is_looking : goal.returns-then-not-is_looking
returns-then-not-is_looking c =
    let t = table_of c.args.table.now in
    look_ends t.most_looks c.loop.counter t c.args.text.now (stack_of c.loop.self) (stack_of c.look.new.self) _ c.loop.invariant c.loop-test.true
    c.in_ok-look.ensures (sym c.is_looking.ensures ∙ c.if-not-is_looking.true)

pub returns : goal.returns
returns c =
    let t = table_of c.args.table.now in
    look_stops t.most_looks c.loop.counter t c.args.text.now (stack_of c.loop.self) (stack_of c.refuse.new.self) _ c.loop.invariant c.loop-test.false c.in_ok-refuse.ensures
