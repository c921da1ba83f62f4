use Rattle.std.proofs.Common.{◌≡◌, ◌∙◌, false, ap, subst, length, arith}
use Rattle.std.proofs.lemmas.Bool.Decides.{nat_tests}
use Rattle.typst_linked.specs.Place.{Place}
use Rattle.typst_linked.specs.LeafAt.{is_childless, IsCoveringBelow}
use Rattle.typst_linked.proofs.LastLeaves.{not_childless}
use Rattle.typst_linked.proofs.LeafWays.{leaf_covering}
use Rattle.typst_linked.proofs.node.LinkedNode.leaf_at.Goals as goal

pub returns-then-covers : goal.returns-then-covers
returns-then-covers c =
    let n = c.get.result.now in
    let k = c.is_empty.ensures in
    let f = c.if-not-is_empty.ensures in
    let inner : is_childless n ≡ false = not_childless n (λ e. let l : length c.child_slice.result.now ≡ 0 = ap length c.child_slice.ensures.children ∙ e in grind (arith, nat_tests)) in
    leaf_covering c.args.side c.args.cursor c.args.self.now c.in_ok-into_covered.field-0 n c.get.ensures inner
    (subst (λ (p : Place). IsCoveringBelow c.args.side c.args.cursor p c.in_ok-into_covered.field-0) c.in_ok-clone.ensures.cases c.in_ok-into_covered.ensures)
