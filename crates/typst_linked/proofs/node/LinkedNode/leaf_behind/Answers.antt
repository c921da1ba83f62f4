use Rattle.std.proofs.Common.{◌≡◌, ◌+◌, ◌∙◌, length, take, Some, ap, sym, refl, arith, false, true}
use Rattle.std.specs.Prelude.{slice_get, not}
use Rattle.std.proofs.lemmas.Option.{slice_get_read}
use Rattle.typst_base.specs.KindClasses.{is_trivia_kind}
use Rattle.typst_node.specs.Tree.{Tree, trees}
use Rattle.typst_node.specs.Text.{text_of_all}
use Rattle.typst_node.proofs.PathSteps.{at-push}
use Rattle.typst_linked.specs.Place.{subtree, child_place}
use Rattle.typst_linked.specs.Search.{first_path, found_below}
use Rattle.typst_linked.specs.Siblings.{is_solid}
use Rattle.typst_linked.specs.Leaves.{is_good}
use Rattle.typst_linked.proofs.Places.{same_node}
use Rattle.typst_linked.proofs.Stops.{later_hit, later_miss, later_trivia}
use Rattle.typst_linked.proofs.Walks.{first_here, not_passed}
use Rattle.typst_linked.proofs.node.LinkedNode.leaf_behind.Goals as goal
use Rattle.typst_linked.proofs.node.LinkedNode.leaf_behind.Goals.{then-not-is_trivia+else-is_good_leaf+in_ok-child+in_ok-leaf+in_default, else-not-is_trivia}

pub returns-then-is_good_leaf : goal.returns-then-is_good_leaf
returns-then-is_good_leaf c =
    let p = c.args.parent.now.value in
    let n = c.get-node.result.now in
    let i = c.loop-index.index in
    let hs : subtree p ≡ Some n = ap subtree (sym c.deref.ensures) ∙ c.get-node.ensures in
    let node = c.index-children-index.result in
    let s : slice_get (trees n.children) i ≡ Some node = rw (← c.child_slice-children.ensures.children) (slice_get_read c.child_slice-children.result.now (length c.child_slice-children.result.now) i node refl (omega arith) c.index-children-index.is) in
    let solid : is_solid node ≡ true = ap (λ k. not (is_trivia_kind k)) (sym c.kind.ensures.kind) ∙ sym (ap not c.if-not-is_trivia.ensures) in
    let good : is_good node ≡ true = c.is_good_leaf.ensures.good.0 c.if-is_good_leaf.true in
    later_hit p n node (c.args.before + 1) i c.in_ok-shared_child.field-0 hs s solid (c.loop-index.invariant.found n hs)
    (ap Some c.in_ok-shared_child.ensures ∙ first_here is_good (child_place p i) node (at-push p.path i p.root n node hs s) good)

pub leftmost_below-requires : goal.leftmost_below-requires
leftmost_below-requires c = λ u h.
    let p = c.args.parent.now.value in
    let n = c.get-node.result.now in
    let i = c.loop-index.index in
    let hs : subtree p ≡ Some n = ap subtree (sym c.deref.ensures) ∙ c.get-node.ensures in
    let node = c.index-children-index.result in
    let s : slice_get (trees n.children) i ≡ Some node = rw (← c.child_slice-children.ensures.children) (slice_get_read c.child_slice-children.result.now (length c.child_slice-children.result.now) i node refl (omega arith) c.index-children-index.is) in
    let bad = not_passed c.is_good_leaf.result (is_good node) c.is_good_leaf.ensures.good.1 c.if-is_good_leaf.false in
    ap is_good (same_node u node (child_place p i) (ap subtree (sym c.in_ok-child.ensures) ∙ h) (at-push p.path i p.root n node hs s)) ∙ bad

pub returns-in-Some : goal.returns-in-Some
returns-in-Some c =
    let p = c.args.parent.now.value in
    let n = c.get-node.result.now in
    let i = c.loop-index.index in
    let hs : subtree p ≡ Some n = ap subtree (sym c.deref.ensures) ∙ c.get-node.ensures in
    let node = c.index-children-index.result in
    let s : slice_get (trees n.children) i ≡ Some node = rw (← c.child_slice-children.ensures.children) (slice_get_read c.child_slice-children.result.now (length c.child_slice-children.result.now) i node refl (omega arith) c.index-children-index.is) in
    let solid : is_solid node ≡ true = ap (λ k. not (is_trivia_kind k)) (sym c.kind.ensures.kind) ∙ sym (ap not c.if-not-is_trivia.ensures) in
    later_hit p n node (c.args.before + 1) i c.in-Some.leaf hs s solid (c.loop-index.invariant.found n hs)
    (sym c.in-Some.is ∙ c.in_ok-leaf.ensures ∙ ap (found_below (first_path is_good)) c.in_ok-child.ensures)

pub loop-index-preserved : goal.loop-index-preserved
loop-index-preserved c =
    let p = c.args.parent.now.value in
    let i = c.loop-index.index in
    let own : subtree p ≡ Some c.get-node.result.now = ap subtree (sym c.deref.ensures) ∙ c.get-node.ensures in
    let node = c.index-children-index.result in
    let s : slice_get (trees c.get-node.result.now.children) i ≡ Some node = rw (← c.child_slice-children.ensures.children) (slice_get_read c.child_slice-children.result.now (length c.child_slice-children.result.now) i node refl (omega arith) c.index-children-index.is) in
    record {
      begin = λ n hs. omega (arith, c.loop-index.invariant.begin n hs, c.loop-index.invariant.begin c.get-node.result.now own, c.len_of_child.ensures.more, ap (λ (u : Tree). length (text_of_all (take (i + 1) (trees u.children)))) (same_node c.get-node.result.now n p own hs));
      found = λ n hs.
          let same : c.get-node.result.now ≡ n = same_node c.get-node.result.now n p own hs in
          let there : slice_get (trees n.children) i ≡ Some node = ap (λ (u : Tree). slice_get (trees u.children) i) (sym same) ∙ s in
          elim c.if-not-is_trivia.branch [
            | then-not-is_trivia+else-is_good_leaf+in_ok-child+in_ok-leaf+in_default w ↦
                let solid : is_solid node ≡ true = ap (λ k. not (is_trivia_kind k)) (sym c.kind.ensures.kind) ∙ sym (ap not w.if-not-is_trivia.ensures) in
                later_miss p n node (c.args.before + 1) i hs there solid (c.loop-index.invariant.found n hs) (sym w.in_default.is ∙ w.in_ok-leaf.ensures ∙ ap (found_below (first_path is_good)) w.in_ok-child.ensures)
            | else-not-is_trivia w ↦
                let trivia : is_solid node ≡ false = ap (λ k. not (is_trivia_kind k)) (sym c.kind.ensures.kind) ∙ sym (ap not w.if-not-is_trivia.ensures) in
                c.loop-index.invariant.found n hs ∙ later_trivia n node i there trivia
          ];
    }
