use Rattle.std.proofs.Common.{[], ◌∷◌, ap, ◌∙◌, sym, subst, map, string_bytes}
use Rattle.std.proofs.lemmas.List.{map-append}
use Rattle.typst_node.specs.Tree.{Tree}
use Rattle.typst_node.specs.Hints.{hinted, plain_hints, CanHint}
use Rattle.typst_node.proofs.HintLemmas.{hinted_append, can_hint_again}
use Rattle.typst_node.proofs.node.SyntaxNode.with_hints.Goals as goal

pub loop-text-preserved : goal.loop-text-preserved
loop-text-preserved c =
    let one = plain_hints (map string_bytes (c.in-Some.text ∷ [])) in
    let so_far = plain_hints (map string_bytes c.loop-text.yielded) in (
      tt,
      tt,
      subst (λ (t : Tree). CanHint t.label) (sym c.in_ok-push_hint.ensures.ok) (can_hint_again one c.loop-text.self c.loop-text.invariant.2),
      c.in_ok-push_hint.ensures.ok ∙ ap (hinted one) c.loop-text.invariant.3 ∙ hinted_append so_far one c.args.self
          ∙ ap (λ hs. hinted hs c.args.self) (sym (ap plain_hints (map-append string_bytes c.loop-text.yielded (c.in-Some.text ∷ [])) ∙ map-append _ (map string_bytes c.loop-text.yielded) (map string_bytes (c.in-Some.text ∷ [])))),
    )
