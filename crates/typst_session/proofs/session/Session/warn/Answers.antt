use Rattle.std.proofs.Common.{◌≡◌, ◌∙◌, ◌-◌, ◌++◌, [], ◌∷◌, None, ap, refl, set, take}
use Rattle.typst_node.specs.Warnings.{warned, warning}
use Rattle.typst_node.specs.Tree.{Tree}
use Rattle.typst_session.proofs.Tops.{last_apart, last_set}
use Rattle.typst_session.proofs.session.Session.warn.Goals as goal

pub returns : goal.returns
returns c =
    let stack = c.args.self.now.stack in
    let some = c.in-Some.ensures.variant.0 refl in
    let made : c.warn.new.self ≡ warned (warning None c.args.message.now) c.in-Some.node.now =
    c.in_ok-warn.ensures.ok ∙ ap (λ m. warned (warning None m) c.in-Some.node.now) c.in_ok-message.ensures.ok.0 in
    let put : set stack.items (stack.len - 1) c.warn.new.self ≡ take (stack.len - 1) stack.items ++ c.warn.new.self ∷ [] =
    last_set stack.items stack.len c.warn.new.self stack.ok.0 some in (
      c.in_ok-message.ensures.ok.1,
      record {
        below = take (stack.len - 1) stack.items;
        node = c.in-Some.node.now;
        was = last_apart stack.items stack.len c.in-Some.node.now stack.ok.0 some c.in-Some.ensures.value;
        holds = tt;
        is = record { stack = put ∙ ap (λ (t : Tree). take (stack.len - 1) stack.items ++ t ∷ []) made; held = refl; last = refl };
      },
    )
