use Rattle.std.proofs.Common.{◌≡◌, ◌∙◌, length, take, Some, None, ap, sym, arith}
use Rattle.typst_linked.proofs.Places.{child_within}
use Rattle.std.proofs.lemmas.Result.{IfOk-weaker}
use Rattle.typst_node.specs.Tree.{trees}
use Rattle.typst_node.specs.Text.{text_of_all}
use Rattle.typst_linked.specs.Place.{subtree, child_place, last_step}
use Rattle.typst_linked.specs.Search.{found_below}
use Rattle.typst_linked.specs.Leaves.{earlier_up, stop_before, elsewhere}
use Rattle.typst_linked.proofs.Stops.{parent_there}
use Rattle.typst_linked.proofs.StopsBefore.{prev_hit, prev_miss, root_start}
use Rattle.typst_linked.proofs.Places.{some_of}
use Rattle.typst_linked.proofs.node.LinkedNode.+prev_leaf.Goals as goal

pub returns-in_default : goal.returns-in_default
returns-in_default t c = root_start c.args.self.now c.in_default.ensures.parent

pub returns-in-Some-2 : goal.returns-in-Some-2
returns-in-Some-2 t c =
    let p = c.in-Some.parent.now.value in
    let i = last_step c.args.self.now.path in
    let place : c.args.self.now ≡ child_place p i = c.in-Some.ensures.parent in
    let found = some_of (subtree c.args.self.now) c.in-Some.ensures.there in
    let node = found.0 in
    let there : subtree (child_place p i) ≡ Some node = ap subtree (sym place) ∙ found.1 in
    let x = parent_there p.path i p.root node there in
    let e : Some c.in-Some-2.leaf ≡ found_below (λ t. earlier_up t i) p =
    sym c.in-Some-2.is ∙ c.in_ok-leaf.ensures ∙ ap (λ k. found_below (λ t. earlier_up t k) p) c.index-end.ensures in
    prev_hit p i x.0 node c.in-Some-2.leaf x.1 x.2 e ∙ sym (ap (elsewhere stop_before) place)

pub returns : goal.returns
returns t c =
    let p = c.in-Some.parent.now.value in
    let i = last_step c.args.self.now.path in
    let place : c.args.self.now ≡ child_place p i = c.in-Some.ensures.parent in
    let found = some_of (subtree c.args.self.now) c.in-Some.ensures.there in
    let node = found.0 in
    let there : subtree (child_place p i) ≡ Some node = ap subtree (sym place) ∙ found.1 in
    let x = parent_there p.path i p.root node there in
    let e : None ≡ found_below (λ t. earlier_up t i) p =
    sym c.in_default-2.is ∙ c.in_ok-leaf.ensures ∙ ap (λ k. found_below (λ t. earlier_up t k) p) c.index-end.ensures in
    let outward : elsewhere stop_before c.deref-2.result.now ≡ elsewhere stop_before c.args.self.now =
    ap (elsewhere stop_before) c.deref-2.ensures ∙ prev_miss p i x.0 node x.1 x.2 e ∙ sym (ap (elsewhere stop_before) place) in
    IfOk-weaker c.prev_leaf.result (λ r. r ≡ elsewhere stop_before c.deref-2.result.now) (λ r. r ≡ elsewhere stop_before c.args.self.now) (λ r h. h ∙ outward) c.prev_leaf.ensures

pub leaf_before-requires-clause-within : goal.leaf_before-requires-clause-within
leaf_before-requires-clause-within t c = λ m hm.
    let p = c.in-Some.parent.now.value in
    let i = last_step c.args.self.now.path in
    let place : c.args.self.now ≡ child_place p i = c.in-Some.ensures.parent in
    let found = some_of (subtree c.args.self.now) c.in-Some.ensures.there in
    let there : subtree (child_place p i) ≡ Some found.0 = ap subtree (sym place) ∙ found.1 in
    omega (arith, c.index-end.ensures, child_within p i m found.0 hm there)

pub leaf_before-requires-clause-begin : goal.leaf_before-requires-clause-begin
leaf_before-requires-clause-begin t c = λ s hs. c.begin_below-begin.ensures s (ap subtree c.deref.ensures ∙ hs) ∙ ap (λ k. length (text_of_all (take k (trees s.children)))) (sym c.index-end.ensures)
