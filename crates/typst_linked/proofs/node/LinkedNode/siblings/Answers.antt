use Rattle.std.proofs.Common.{◌≡◌, ◌∙◌, length, ap, sym, arith}
use Rattle.typst_linked.specs.Place.{Place, child_place, last_step}
use Rattle.typst_linked.specs.Siblings.{siblings}
use Rattle.typst_linked.proofs.Places.{child_within, last_step-push}
use Rattle.typst_linked.proofs.Child.{at_place, place_with}
use Rattle.typst_linked.proofs.Nearest.{siblings-child}
use Rattle.typst_linked.proofs.node.LinkedNode.siblings.Goals as goal

pub returns-in-Some-clause-siblings : goal.returns-in-Some-clause-siblings
returns-in-Some-clause-siblings c =
    let parent = c.in-Some.parent.value in
    let place : child_place parent c.self.inside.index ≡ c.args.self.now = sym (place_with c.self.inside.node.now c.self.inside.index c.self.inside.parent c.in-Some.parent c.in-Some.is) ∙ c.self.view_is in
    let above = at_place _ _ _ _ (c.behind-parent.view_is ∙ c.deref.ensures) c.behind-parent.invariant.0 in
    c.child_slice.ensures.children ∙ sym (siblings-child parent c.self.inside.index c.behind-parent.inside.node.now above.node_is) ∙ ap siblings place

pub returns-in-Some-clause-within : goal.returns-in-Some-clause-within
returns-in-Some-clause-within c =
    let parent = c.in-Some.parent.value in
    let index = c.self.inside.index in
    let is_child = place_with c.self.inside.node.now index c.self.inside.parent c.in-Some.parent c.in-Some.is in
    let place : child_place parent index ≡ c.args.self.now = sym is_child ∙ c.self.view_is in
    let above = at_place _ _ _ _ (c.behind-parent.view_is ∙ c.deref.ensures) c.behind-parent.invariant.0 in
    let own = at_place _ _ _ _ is_child c.self.invariant.0 in
    let last : index ≡ last_step c.args.self.now.path = sym (last_step-push parent.path index) ∙ ap (λ (p : Place). last_step p.path) place in
    omega (arith, ap length c.child_slice.ensures.children, child_within parent index c.behind-parent.inside.node.now c.self.inside.node.now above.node_is own.node_is)
