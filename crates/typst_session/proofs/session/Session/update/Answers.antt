use Rattle.std.proofs.Common.{refl, rules}
use Rattle.typst_session.proofs.session.Session.update.Goals as goal

pub returns-in-Ok : goal.returns-in-Ok
returns-in-Ok c = record {
  rest = c.pop.new.self.items;
  node = c.in_ok-node.node;
  root = c.in-Tree.tree;
  after = c.update.new.self;
  done = c.in-Ok.done;
  stack = search rules;
  was = c.in-Tree.is;
  updated = c.in-Ok.ensures.updated;
  change = c.change_below-change.ensures.told;
  last = c.change_below-change.result.1;
  kept = c.change_below-change.ensures.kept;
  holds = record { stack = refl; held = refl; last = refl };
}
