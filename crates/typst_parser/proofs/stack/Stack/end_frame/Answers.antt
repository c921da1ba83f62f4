use Rattle.std.proofs.Common.{◌≡◌, min, length, rules}
use Rattle.typst_parser.specs.View.{stack_of}
use Rattle.typst_parser.proofs.Links.{popped}
use Rattle.typst_parser.proofs.stack.Stack.end_frame.Goals as goal

pub returns-in-Some : goal.returns-in-Some
returns-in-Some c =
    let s = stack_of c.args.self.now in
    let at : c.min-self.result ≡ min s.judge (length c.pop.new.self.items) = search rules in
    popped s c.pop.new.self.items c.in-Some.frame c.rejoined-self.result c.min-self.result c.in-Some.ensures.items c.rejoined-self.ensures at
