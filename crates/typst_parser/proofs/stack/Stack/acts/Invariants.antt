use Rattle.std.proofs.Common.{◌≡◌, drop}
use Rattle.typst_parser.specs.Actions.{acts}
use Rattle.typst_parser.specs.View.{stack_of}
use Rattle.typst_parser.proofs.stack.Stack.acts.Given as goal

abbrev pub invariant-loop-action : goal.invariant-loop-action
invariant-loop-action l = acts l.most l.text (drop l.action-index l.actions) (stack_of l.self) ≡ acts l.most l.text l.actions (stack_of l.initial.self)
