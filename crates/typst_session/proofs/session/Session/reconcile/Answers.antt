use Rattle.std.proofs.Common.{◌≡◌, ◌∙◌, ◌-◌, ℕ, List, ap, arith, drop, length, length-drop, refl, subst, take}
use Rattle.std.proofs.lemmas.List.{take_all}
use Rattle.typst_node.specs.Reconciled.{IsReconciled}
use Rattle.typst_node.specs.Tree.{Tree}
use Rattle.typst_session.proofs.session.Session.reconcile.Goals as goal

pub returns-in-Ok : goal.returns-in-Ok
returns-in-Ok c =
    let old = c.args.self.now.stack.items in
    let start : c.in-Some.start ≡ length old - c.args.count = omega (arith, c.in-Some.ensures, c.len.ensures) in
    let nodes : c.in_ok-nodes.nodes.items ≡ drop (length old - c.args.count) old = c.in_ok-nodes.ensures ∙ take_all (length c.deref.result.now - c.in-Some.start) (drop c.in-Some.start c.deref.result.now) (omega (arith, length-drop c.in-Some.start c.deref.result.now)) ∙ ap (drop c.in-Some.start) c.deref.ensures.value ∙ ap (λ (n : ℕ). drop n old) start in
    record {
      root = c.in-Tree.tree;
      after = c.reconcile.new.self;
      done = c.in-Ok.done;
      was = c.in-Tree.is;
      enough = omega (arith, c.in-Some.ensures, c.len.ensures);
      reconciled =
          subst
          (λ (ts : List Tree). IsReconciled record { path = c.args.path.now; from = c.args.range.start; to = c.args.range.end; others = ts } c.in-Tree.tree c.in-Ok.done.path.items c.in-Ok.done.touched c.in-Ok.done.moves c.reconcile.new.self)
          nodes c.in-Ok.ensures.reconciliation.1;
      change = record { depth = c.len-in-Ok.ensures ∙ c.in-Ok.done.path.ok.0; touched_is = refl; moved = ap length c.moved.ensures.before };
      holds = record { stack = c.truncate.ensures.items ∙ ap (λ (n : ℕ). take n old) start; held = refl; last = refl };
    }
