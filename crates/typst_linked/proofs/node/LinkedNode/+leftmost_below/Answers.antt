use Rattle.std.proofs.Common.{◌≡◌, ℕ, ◌<◌, ◌+◌, ◌≤◌, ◌∙◌, ◌∷◌, length, take, None, Some, ap, sym, subst, refl, arith, rules}
use Rattle.std.specs.Prelude.{slice_get}
use Rattle.std.specs.Option.{option_map, option_or}
use Rattle.std.proofs.lemmas.Option.{slice_get_read}
use Rattle.typst_node.specs.Tree.{Tree, trees}
use Rattle.typst_node.specs.Text.{text_of_all}
use Rattle.typst_node.proofs.PathSteps.{at-push}
use Rattle.typst_linked.specs.Place.{Place, subtree, child_place}
use Rattle.typst_linked.specs.Search.{first_path, found_below}
use Rattle.typst_linked.specs.Leaves.{is_good}
use Rattle.typst_linked.proofs.Places.{same_node}
use Rattle.typst_linked.proofs.Searching.{count_there, found_at, smaller_turn}
use Rattle.typst_linked.proofs.Walks.{first_from, first_from-more, first_path-children, first_from-end, first_hit, first_miss, first_none, first_here, not_passed}
use Rattle.typst_linked.proofs.node.LinkedNode.+leftmost_below.Goals as goal
use Rattle.typst_linked.proofs.node.LinkedNode.+leftmost_below.Goals.{then-not-is_childless+in_ok-child+in_ok-leaf+in_default, else-not-is_childless}

pub returns-then-count-eq0 : goal.returns-then-count-eq0
returns-then-count-eq0 t c =
    let n = c.get.result.now in
    let bad = c.requires n c.get.ensures in
    let childless : length (trees n.children) ≤ 0 = omega (arith, ap length c.child_slice-count.ensures.children) in
    sym (found_at (first_path is_good) c.args.self n None c.get.ensures (first_path-children is_good n bad ∙ first_from-end is_good n 0 childless))

pub loop-index-init : goal.loop-index-init
loop-index-init t c = record { begin = λ s hs. refl; found = λ s hs. first_path-children is_good s (c.requires s hs) }

pub returns-then-is_good_leaf : goal.returns-then-is_good_leaf
returns-then-is_good_leaf t c =
    let n = c.get-node.result.now in
    let i = c.loop-index.index in
    let kids = ap (λ (u : Tree). length (trees u.children)) (same_node c.get.result.now n c.args.self c.get.ensures c.get-node.ensures) in
    let node = c.index-child_slice-index.result in
    let s : slice_get (trees n.children) i ≡ Some node =
    rw (← c.child_slice.ensures.children) (slice_get_read c.child_slice.result.now (length c.child_slice.result.now) i node refl (omega (arith, kids, ap length c.child_slice-count.ensures.children, ap length c.child_slice.ensures.children)) c.index-child_slice-index.is) in
    let good = c.is_good_leaf.ensures.good.0 c.if-is_good_leaf.true in
    let place : c.child_at.result ≡ child_place c.args.self i = c.child_at.ensures ∙ ap (λ (p : Place). child_place p i) c.in_ok-parent.ensures.ok in
    first_hit is_good c.args.self n node i c.child_at.result c.get-node.ensures s (c.loop-index.invariant.found n c.get-node.ensures)
    (ap Some place ∙ first_here is_good (child_place c.args.self i) node (at-push c.args.self.path i c.args.self.root n node c.get-node.ensures s) good)

pub leftmost_below-requires : goal.leftmost_below-requires
leftmost_below-requires t c =
    let n = c.get-node.result.now in
    let i = c.loop-index.index in
    let kids = ap (λ (u : Tree). length (trees u.children)) (same_node c.get.result.now n c.args.self c.get.ensures c.get-node.ensures) in
    let node = c.index-child_slice-index.result in
    let s : slice_get (trees n.children) i ≡ Some node =
    rw (← c.child_slice.ensures.children) (slice_get_read c.child_slice.result.now (length c.child_slice.result.now) i node refl (omega (arith, kids, ap length c.child_slice-count.ensures.children, ap length c.child_slice.ensures.children)) c.index-child_slice-index.is) in
    let place : c.in_ok-child.child ≡ child_place c.args.self i = c.in_ok-child.ensures ∙ ap (λ (p : Place). child_place p i) c.in_ok-parent.ensures.ok in
    let l = smaller_turn n node c.args.self c.in_ok-child.child i (trees n.children) c.get-node.ensures refl s place in
    let bad = not_passed c.is_good_leaf.result (is_good node) c.is_good_leaf.ensures.good.1 c.if-is_good_leaf.false in (
      subst (λ (k : ℕ). count_there (subtree c.in_ok-child.child) < k) c.decreases l,
      λ u h. ap is_good (same_node u node (child_place c.args.self i) (ap subtree (sym place) ∙ h) (at-push c.args.self.path i c.args.self.root n node c.get-node.ensures s)) ∙ bad,
    )

pub returns-in-Some : goal.returns-in-Some
returns-in-Some t c =
    let n = c.get-node.result.now in
    let i = c.loop-index.index in
    let kids = ap (λ (u : Tree). length (trees u.children)) (same_node c.get.result.now n c.args.self c.get.ensures c.get-node.ensures) in
    let node = c.index-child_slice-index.result in
    let s : slice_get (trees n.children) i ≡ Some node =
    rw (← c.child_slice.ensures.children) (slice_get_read c.child_slice.result.now (length c.child_slice.result.now) i node refl (omega (arith, kids, ap length c.child_slice-count.ensures.children, ap length c.child_slice.ensures.children)) c.index-child_slice-index.is) in
    let place : c.in_ok-child.child ≡ child_place c.args.self i = c.in_ok-child.ensures ∙ ap (λ (p : Place). child_place p i) c.in_ok-parent.ensures.ok in
    first_hit is_good c.args.self n node i c.in-Some.leaf c.get-node.ensures s (c.loop-index.invariant.found n c.get-node.ensures)
    (sym c.in-Some.is ∙ c.in_ok-leaf.ensures ∙ ap (found_below (first_path is_good)) place)

pub loop-index-preserved : goal.loop-index-preserved
loop-index-preserved t c =
    let n = c.get-node.result.now in
    let i = c.loop-index.index in
    let kids = ap (λ (u : Tree). length (trees u.children)) (same_node c.get.result.now n c.args.self c.get.ensures c.get-node.ensures) in
    let node = c.index-child_slice-index.result in
    let s : slice_get (trees n.children) i ≡ Some node =
    rw (← c.child_slice.ensures.children) (slice_get_read c.child_slice.result.now (length c.child_slice.result.now) i node refl (omega (arith, kids, ap length c.child_slice-count.ensures.children, ap length c.child_slice.ensures.children)) c.index-child_slice-index.is) in
    let bad = not_passed c.is_good_leaf.result (is_good node) c.is_good_leaf.ensures.good.1 c.if-is_good_leaf.false in
    record {
      begin = λ u hu. omega (
        arith,
        c.loop-index.invariant.begin u hu,
        c.len_of_child-begin.ensures.more,
        ap (λ (v : Tree). length (text_of_all (take (i + 1) (trees v.children)))) (same_node u n c.args.self hu c.get-node.ensures),
        ap (λ (v : Tree). length (text_of_all (take i (trees v.children)))) (same_node u n c.args.self hu c.get-node.ensures),
      );
      found = λ u hu.
          let there : slice_get (trees u.children) i ≡ Some node = ap (λ (v : Tree). slice_get (trees v.children) i) (same_node u n c.args.self hu c.get-node.ensures) ∙ s in
          elim c.if-not-is_childless.branch [
            | then-not-is_childless+in_ok-child+in_ok-leaf+in_default w ↦
                let place : w.in_ok-child.child ≡ child_place c.args.self i = w.in_ok-child.ensures ∙ ap (λ (p : Place). child_place p i) c.in_ok-parent.ensures.ok in
                first_miss is_good c.args.self u node i hu there (c.loop-index.invariant.found u hu) (sym w.in_default.is ∙ w.in_ok-leaf.ensures ∙ ap (found_below (first_path is_good)) place)
            | else-not-is_childless w ↦
                let nothing = first_none is_good node bad (w.if-not-is_childless.ensures.0 (search rules)) in
                c.loop-index.invariant.found u hu ∙ first_from-more is_good u node i there ∙ ap (λ o. option_or (option_map (λ q. i ∷ q) o) (first_from is_good u (i + 1))) nothing
          ];
    }
