use Rattle.std.proofs.Common.{true, false}
use Rattle.typst_session.specs.Sessions.{root_of}
use Rattle.typst_session.proofs.Viewed.{view_told}
use Rattle.typst_session.proofs.session.Session.view.Goals as goal

pub returns-then-tell : goal.returns-then-tell
returns-then-tell c = (
  c.in_ok-accessor.accessor,
  c.in_ok-accessor.ensures.ok,
  view_told (root_of c.args.self.now.held) c.args.path.now c.in-Ok.node.now c.in_ok-accessor.accessor c.args.asked.index c.in-Ok-answer.answer
      (record { bytes = c.args.out.now; answer = c.args.told.now }) (record { bytes = c.tell.new.out; answer = c.tell.new.told }) true
      c.in-Ok.ensures.ok c.in-Ok-answer.ensures.answers c.if-tell.ensures,
)

pub returns-in-Ok-answer : goal.returns-in-Ok-answer
returns-in-Ok-answer c = (
  c.in_ok-accessor.accessor,
  c.in_ok-accessor.ensures.ok,
  view_told (root_of c.args.self.now.held) c.args.path.now c.in-Ok.node.now c.in_ok-accessor.accessor c.args.asked.index c.in-Ok-answer.answer
      (record { bytes = c.args.out.now; answer = c.args.told.now }) (record { bytes = c.tell.new.out; answer = c.tell.new.told }) false
      c.in-Ok.ensures.ok c.in-Ok-answer.ensures.answers c.if-tell.ensures,
)
