use Rattle.std.proofs.Common.{◌≡◌, ◌∙◌, List, Some, length, ap, sym, subst, arith}
use Rattle.std.proofs.lemmas.Option.{slice_get_within}
use Rattle.typst_node.specs.Tree.{Tree, trees}
use Rattle.typst_node.specs.Labels.{number}
use Rattle.typst_linked.specs.Place.{Place, subtree}
use Rattle.typst_node.specs.BinaryDigits.{binary_digits}
use Rattle.typst_linked.specs.Floor.{NumbersRise, AreAbove}
use Rattle.typst_linked.specs.Finds.{HasNumberBelow}
use Rattle.typst_linked.proofs.Places.{same_node}
use Rattle.typst_linked.proofs.Searching.{Searching, searching_start, searching_found, searching_none, searching_below, searching_here, searching_room, searching_looks, searching_hit, steps_below, steps_none, next_turn, smaller_turn, below-nothing}
use Rattle.typst_linked.proofs.node.LinkedNode.find_number.Goals as goal

pub returns-then-own-wanted-clause-hit : goal.returns-then-own-wanted-clause-hit
returns-then-own-wanted-clause-hit c = record {
  path = _;
  node = c.get-2.result.now;
  place_is = c.in_ok-clone.ensures.cases ∙ below-nothing c.args.self.now;
  node_is = ap subtree c.in_ok-clone.ensures.cases ∙ c.get-2.ensures;
  number_is = sym c.number_of-own.ensures.number ∙ c.if-own-wanted.true;
}

pub returns-then-wanted-own-clause-found : goal.returns-then-wanted-own-clause-found
returns-then-wanted-own-clause-found c = λ s hs num.
    let e = ap (λ (t : Tree). number t.label) (same_node s c.get-2.result.now c.args.self.now hs c.get-2.ensures) in
    searching_below s c.args.self.now c.args.wanted hs (omega (arith, e)) num

pub returns-then-wanted-own-clause-steps : goal.returns-then-wanted-own-clause-steps
returns-then-wanted-own-clause-steps c = λ s hs num.
    steps_below c.get-2.result.now s c.args.self.now c.args.wanted c.number_of-own.new.self c.get-2.ensures hs (omega (arith, c.number_of-own.ensures.number, c.if-wanted-own.true)) num

pub loop-next-init : goal.loop-next-init
loop-next-init c = λ s hs.
    let e = ap (λ (t : Tree). number t.label) (same_node s c.get-2.result.now c.args.self.now hs c.get-2.ensures) in
    searching_start binary_digits s c.args.self.now c.in_ok-here.here c.args.wanted c.number_of-own.new.self c.in_ok-here.ensures.cases (omega arith) (omega (arith, e))

pub last_up_to-requires : goal.last_up_to-requires
last_up_to-requires c =
    searching_room binary_digits _ _ _ _ c.args.wanted c.loop-next.looks c.child_slice.result.now c.get.ensures c.get-in-loop-next.ensures c.child_slice.ensures.children (omega arith) (c.loop-next.invariant _ c.get.ensures).0

pub into_child-requires : goal.into_child-requires
into_child-requires c =
    let f = c.in-Some.ensures.found in
    record {
      child = λ m hm.
          let e : c.child_slice.result.now ≡ trees m.children = c.child_slice.ensures.children ∙ ap (λ (t : Tree). trees t.children) (same_node c.get-in-loop-next.result.now m c.loop-next.here c.get-in-loop-next.ensures hm) in
          omega (arith, ap length e, slice_get_within c.child_slice.result.now c.in-Some.next.index f.1.0 f.1.1);
    }

pub returns-in_err-here-2-clause-looks : goal.returns-in_err-here-2-clause-looks
returns-in_err-here-2-clause-looks c =
    let x = (c.loop-next.invariant _ c.get.ensures).0 in
    searching_looks c.get.result.now c.get-in-loop-next.result.now c.args.self.now c.loop-next.here c.args.wanted c.loop-next.looks c.last_up_to.new.looks c.child_slice.result.now c.get.ensures c.get-in-loop-next.ensures c.child_slice.ensures.children x c.in-Some.ensures.cost c.in-Some.ensures.grows

pub returns-then-next-wanted-clause-found : goal.returns-then-next-wanted-clause-found
returns-then-next-wanted-clause-found c = λ s hs num.
    let x = (c.loop-next.invariant s hs).0 in
    let y = next_turn binary_digits s c.get-in-loop-next.result.now c.args.self.now c.loop-next.here c.args.wanted c.loop-next.looks c.last_up_to.new.looks c.in-Some.next.index c.in-Some.next.number c.child_slice.result.now hs c.get-in-loop-next.ensures c.child_slice.ensures.children x c.in-Some.ensures.found c.in-Some.ensures.later c.in-Some.ensures.cost c.in-Some.ensures.few c.in-Some.ensures.least in
    ap Some c.in_ok-here-2.ensures ∙ searching_found binary_digits s c.args.self.now _ c.args.wanted c.last_up_to.new.looks hs y.0 (y.1 ∙ c.if-next-wanted.true) num

pub returns-then-next-wanted-clause-hit : goal.returns-then-next-wanted-clause-hit
returns-then-next-wanted-clause-hit c =
    let hs = c.get.ensures in
    let x = (c.loop-next.invariant _ hs).0 in
    let y = next_turn binary_digits c.get.result.now c.get-in-loop-next.result.now c.args.self.now c.loop-next.here c.args.wanted c.loop-next.looks c.last_up_to.new.looks c.in-Some.next.index c.in-Some.next.number c.child_slice.result.now hs c.get-in-loop-next.ensures c.child_slice.ensures.children x c.in-Some.ensures.found c.in-Some.ensures.later c.in-Some.ensures.cost c.in-Some.ensures.few c.in-Some.ensures.least in
    subst (λ (p : Place). HasNumberBelow c.args.wanted c.args.self.now p) (sym c.in_ok-here-2.ensures)
    (searching_hit binary_digits c.get.result.now c.args.self.now _ c.args.wanted c.last_up_to.new.looks hs y.0 (y.1 ∙ c.if-next-wanted.true))

pub returns-then-next-wanted-clause-looks : goal.returns-then-next-wanted-clause-looks
returns-then-next-wanted-clause-looks c =
    let x = (c.loop-next.invariant _ c.get.ensures).0 in
    searching_looks c.get.result.now c.get-in-loop-next.result.now c.args.self.now c.loop-next.here c.args.wanted c.loop-next.looks c.last_up_to.new.looks c.child_slice.result.now c.get.ensures c.get-in-loop-next.ensures c.child_slice.ensures.children x c.in-Some.ensures.cost c.in-Some.ensures.grows

pub loop-next-smaller : goal.loop-next-smaller
loop-next-smaller c =
    let f = c.in-Some.ensures.found in
    smaller_turn c.get-in-loop-next.result.now f.1.0 c.loop-next.here c.in_ok-here-2.here c.in-Some.next.index c.child_slice.result.now c.get-in-loop-next.ensures c.child_slice.ensures.children f.1.1 c.in_ok-here-2.ensures

pub loop-next-preserved : goal.loop-next-preserved
loop-next-preserved c = λ s hs.
    let x = (c.loop-next.invariant s hs).0 in
    let y = next_turn binary_digits s c.get-in-loop-next.result.now c.args.self.now c.loop-next.here c.args.wanted c.loop-next.looks c.last_up_to.new.looks c.in-Some.next.index c.in-Some.next.number c.child_slice.result.now hs c.get-in-loop-next.ensures c.child_slice.ensures.children x c.in-Some.ensures.found c.in-Some.ensures.later c.in-Some.ensures.cost c.in-Some.ensures.few c.in-Some.ensures.least in
    subst (λ (p : Place). (z : Searching binary_digits s c.args.self.now p c.args.wanted c.last_up_to.new.looks) × (number z.node.label ≡ c.args.wanted → ⊥)) (sym c.in_ok-here-2.ensures)
    (y.0, λ same. c.if-next-wanted.false (sym y.1 ∙ same))

pub returns-clause-found : goal.returns-clause-found
returns-clause-found c = λ s hs num.
    let x = c.loop-next.invariant s hs in
    let e = c.child_slice.ensures.children ∙ sym (ap (λ (t : Tree). trees t.children) (searching_here binary_digits s c.get-in-loop-next.result.now c.args.self.now c.loop-next.here c.args.wanted c.loop-next.looks hs c.get-in-loop-next.ensures x.0)) in
    let l = subst (λ (ks : List Tree). NumbersRise ks → AreAbove ks c.args.wanted 0) e c.in_default.ensures.later in
    searching_none binary_digits s c.args.self.now c.loop-next.here c.args.wanted c.loop-next.looks hs x.0 x.1 l num

pub returns-clause-looks : goal.returns-clause-looks
returns-clause-looks c =
    let x = (c.loop-next.invariant _ c.get.ensures).0 in
    searching_looks c.get.result.now c.get-in-loop-next.result.now c.args.self.now c.loop-next.here c.args.wanted c.loop-next.looks c.last_up_to.new.looks c.child_slice.result.now c.get.ensures c.get-in-loop-next.ensures c.child_slice.ensures.children x c.in_default.ensures.cost c.in_default.ensures.grows

pub returns-clause-steps : goal.returns-clause-steps
returns-clause-steps c = λ s hs num.
    let x = (c.loop-next.invariant s hs).0 in
    let e = c.child_slice.ensures.children ∙ sym (ap (λ (t : Tree). trees t.children) (searching_here binary_digits s c.get-in-loop-next.result.now c.args.self.now c.loop-next.here c.args.wanted c.loop-next.looks hs c.get-in-loop-next.ensures x)) in
    let l = subst (λ (ks : List Tree). NumbersRise ks → AreAbove ks c.args.wanted 0) e c.in_default.ensures.later in
    steps_none binary_digits s c.args.self.now c.loop-next.here c.args.wanted c.loop-next.looks c.last_up_to.new.looks x l c.in_default.ensures.grows num
