use Rattle.std.proofs.Common.{◌≡◌, ℕ, ◌+◌, ◌-◌, ◌∙◌, length, take, Some, ap, sym, refl, arith, false, true}
use Rattle.std.specs.Prelude.{slice_get, not}
use Rattle.std.proofs.lemmas.Option.{slice_get_read}
use Rattle.typst_base.specs.KindClasses.{is_trivia_kind}
use Rattle.typst_node.specs.Tree.{Tree, trees}
use Rattle.typst_node.specs.Text.{text_of_all}
use Rattle.typst_node.proofs.PathSteps.{at-push}
use Rattle.typst_linked.specs.Place.{subtree, child_place}
use Rattle.typst_linked.specs.Search.{last_path, found_below}
use Rattle.typst_linked.specs.Siblings.{is_solid}
use Rattle.typst_linked.specs.Leaves.{is_good, earlier_up}
use Rattle.typst_linked.proofs.Places.{same_node}
use Rattle.typst_linked.proofs.StopsBefore.{earlier_hit, earlier_miss, earlier_trivia}
use Rattle.typst_linked.proofs.Walks.{last_here, not_passed}
use Rattle.typst_linked.proofs.node.LinkedNode.leaf_before.Goals as goal

pub returns-then-is_good_leaf : goal.returns-then-is_good_leaf
returns-then-is_good_leaf c =
    let p = c.args.parent.now.value in
    let n = c.get-node.result.now in
    let i = c.loop-before.before - 1 in
    let back : c.loop-before.before ≡ i + 1 = omega arith in
    let hs : subtree p ≡ Some n = ap subtree (sym c.deref.ensures) ∙ c.get-node.ensures in
    let node = c.index-children-before.result in
    let s : slice_get (trees n.children) i ≡ Some node = rw (← c.child_slice-children.ensures.children) (slice_get_read c.child_slice-children.result.now (length c.child_slice-children.result.now) i node refl (omega (arith, ap length c.child_slice-children.ensures.children, c.requires.within n hs)) c.index-children-before.is) in
    let solid : is_solid node ≡ true = ap (λ k. not (is_trivia_kind k)) (sym c.kind.ensures.kind) ∙ sym (ap not c.if-not-is_trivia.ensures) in
    let good : is_good node ≡ true = c.is_good_leaf.ensures.good.0 c.if-is_good_leaf.true in
    earlier_hit p n node c.args.end i c.in_ok-shared_child.field-0 hs s solid (c.loop-before.invariant.found n hs ∙ ap (earlier_up n) back)
    (ap Some c.in_ok-shared_child.ensures ∙ last_here is_good (child_place p i) node (at-push p.path i p.root n node hs s) good (c.is_good_leaf.ensures.childless c.if-is_good_leaf.true))

pub rightmost_below-requires : goal.rightmost_below-requires
rightmost_below-requires c = λ u h.
    let p = c.args.parent.now.value in
    let n = c.get-node.result.now in
    let i = c.loop-before.before - 1 in
    let back : c.loop-before.before ≡ i + 1 = omega arith in
    let hs : subtree p ≡ Some n = ap subtree (sym c.deref.ensures) ∙ c.get-node.ensures in
    let node = c.index-children-before.result in
    let s : slice_get (trees n.children) i ≡ Some node = rw (← c.child_slice-children.ensures.children) (slice_get_read c.child_slice-children.result.now (length c.child_slice-children.result.now) i node refl (omega (arith, ap length c.child_slice-children.ensures.children, c.requires.within n hs)) c.index-children-before.is) in
    let bad = not_passed c.is_good_leaf.result (is_good node) c.is_good_leaf.ensures.good.1 c.if-is_good_leaf.false in
    ap is_good (same_node u node (child_place p i) (ap subtree (sym c.in_ok-child.ensures) ∙ h) (at-push p.path i p.root n node hs s)) ∙ bad

pub returns-in-Some : goal.returns-in-Some
returns-in-Some c =
    let p = c.args.parent.now.value in
    let n = c.get-node.result.now in
    let i = c.loop-before.before - 1 in
    let back : c.loop-before.before ≡ i + 1 = omega arith in
    let hs : subtree p ≡ Some n = ap subtree (sym c.deref.ensures) ∙ c.get-node.ensures in
    let node = c.index-children-before.result in
    let s : slice_get (trees n.children) i ≡ Some node = rw (← c.child_slice-children.ensures.children) (slice_get_read c.child_slice-children.result.now (length c.child_slice-children.result.now) i node refl (omega (arith, ap length c.child_slice-children.ensures.children, c.requires.within n hs)) c.index-children-before.is) in
    let solid : is_solid node ≡ true = ap (λ k. not (is_trivia_kind k)) (sym c.kind.ensures.kind) ∙ sym (ap not c.if-not-is_trivia.ensures) in
    earlier_hit p n node c.args.end i c.in-Some.leaf hs s solid (c.loop-before.invariant.found n hs ∙ ap (earlier_up n) back)
    (sym c.in-Some.is ∙ c.in_ok-leaf.ensures ∙ ap (found_below (last_path is_good)) c.in_ok-child.ensures)

pub loop-before-preserved-in_default : goal.loop-before-preserved-in_default
loop-before-preserved-in_default c =
    let p = c.args.parent.now.value in
    let n = c.get-node.result.now in
    let i = c.loop-before.before - 1 in
    let back : c.loop-before.before ≡ i + 1 = omega arith in
    let hs : subtree p ≡ Some n = ap subtree (sym c.deref.ensures) ∙ c.get-node.ensures in
    let node = c.index-children-before.result in
    let s : slice_get (trees n.children) i ≡ Some node = rw (← c.child_slice-children.ensures.children) (slice_get_read c.child_slice-children.result.now (length c.child_slice-children.result.now) i node refl (omega (arith, ap length c.child_slice-children.ensures.children, c.requires.within n hs)) c.index-children-before.is) in
    let solid : is_solid node ≡ true = ap (λ k. not (is_trivia_kind k)) (sym c.kind.ensures.kind) ∙ sym (ap not c.if-not-is_trivia.ensures) in
    record {
      begin = λ u hu. omega (
        arith,
        c.loop-before.invariant.begin u hu,
        c.len_of_child.ensures.more,
        ap (λ (k : ℕ). length (text_of_all (take k (trees u.children)))) back,
        ap (λ (v : Tree). length (text_of_all (take (i + 1) (trees v.children)))) (same_node u n p hu hs),
        ap (λ (v : Tree). length (text_of_all (take i (trees v.children)))) (same_node u n p hu hs),
      );
      found = λ u hu.
          let there : slice_get (trees u.children) i ≡ Some node = ap (λ (v : Tree). slice_get (trees v.children) i) (same_node u n p hu hs) ∙ s in
          earlier_miss p u node c.args.end i hu there solid (c.loop-before.invariant.found u hu ∙ ap (earlier_up u) back)
          (sym c.in_default.is ∙ c.in_ok-leaf.ensures ∙ ap (found_below (last_path is_good)) c.in_ok-child.ensures);
    }

pub loop-before-preserved : goal.loop-before-preserved
loop-before-preserved c =
    let p = c.args.parent.now.value in
    let n = c.get-node.result.now in
    let i = c.loop-before.before - 1 in
    let back : c.loop-before.before ≡ i + 1 = omega arith in
    let hs : subtree p ≡ Some n = ap subtree (sym c.deref.ensures) ∙ c.get-node.ensures in
    let node = c.index-children-before.result in
    let s : slice_get (trees n.children) i ≡ Some node = rw (← c.child_slice-children.ensures.children) (slice_get_read c.child_slice-children.result.now (length c.child_slice-children.result.now) i node refl (omega (arith, ap length c.child_slice-children.ensures.children, c.requires.within n hs)) c.index-children-before.is) in
    let trivia : is_solid node ≡ false = ap (λ k. not (is_trivia_kind k)) (sym c.kind.ensures.kind) ∙ sym (ap not c.if-not-is_trivia.ensures) in
    record {
      begin = λ u hu. omega (
        arith,
        c.loop-before.invariant.begin u hu,
        c.len_of_child.ensures.more,
        ap (λ (k : ℕ). length (text_of_all (take k (trees u.children)))) back,
        ap (λ (v : Tree). length (text_of_all (take (i + 1) (trees v.children)))) (same_node u n p hu hs),
        ap (λ (v : Tree). length (text_of_all (take i (trees v.children)))) (same_node u n p hu hs),
      );
      found = λ u hu.
          let there : slice_get (trees u.children) i ≡ Some node = ap (λ (v : Tree). slice_get (trees v.children) i) (same_node u n p hu hs) ∙ s in
          c.loop-before.invariant.found u hu ∙ ap (earlier_up u) back ∙ earlier_trivia u node i there trivia;
    }
