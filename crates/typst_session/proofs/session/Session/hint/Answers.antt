use Rattle.std.proofs.Common.{◌≡◌, ◌∙◌, ◌-◌, ◌++◌, [], ◌∷◌, None, ap, refl, rules, set, take}
use Rattle.typst_node.specs.Hints.{hint_for, hinted}
use Rattle.typst_node.specs.Tree.{Tree}
use Rattle.typst_session.proofs.Tops.{last_apart, last_set}
use Rattle.typst_session.proofs.session.Session.hint.Goals as goal

pub returns : goal.returns
returns c =
    let stack = c.args.self.now.stack in
    let some = c.in-Some.ensures.variant.0 refl in
    let made : c.hint.new.self ≡ hinted (hint_for None c.args.text.now ∷ []) c.in-Some.node.now =
    c.in_ok-hint.ensures.ok ∙ ap (λ m. hinted (hint_for None m ∷ []) c.in-Some.node.now) c.in_ok-text.ensures.ok.0 in
    let put : set stack.items (stack.len - 1) c.hint.new.self ≡ take (stack.len - 1) stack.items ++ c.hint.new.self ∷ [] =
    last_set stack.items stack.len c.hint.new.self stack.ok.0 some in (
      c.in_ok-text.ensures.ok.1,
      record {
        below = take (stack.len - 1) stack.items;
        node = c.in-Some.node.now;
        was = last_apart stack.items stack.len c.in-Some.node.now stack.ok.0 some c.in-Some.ensures.value;
        holds = c.can_hint.ensures.0 (search rules);
        is = record { stack = put ∙ ap (λ (t : Tree). take (stack.len - 1) stack.items ++ t ∷ []) made; held = refl; last = refl };
      },
    )
