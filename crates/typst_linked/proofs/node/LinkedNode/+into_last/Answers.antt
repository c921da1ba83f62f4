use Rattle.std.proofs.Common.{◌≡◌, ℕ, ◌<◌, ◌∙◌, Some, None, IfSome, ap, subst, sym, refl, length, arith}
use Rattle.std.proofs.lemmas.Bool.Decides.{nat_tests}
use Rattle.std.proofs.lemmas.Result.{IfOk-weaker}
use Rattle.typst_node.specs.Tree.{Tree, trees}
use Rattle.typst_node.specs.Count.{count}
use Rattle.typst_linked.specs.Place.{subtree, child_place}
use Rattle.typst_linked.specs.Part.{HasNoOwnText}
use Rattle.typst_linked.specs.Ranges.{begin_of}
use Rattle.typst_linked.specs.Search.{found_below}
use Rattle.typst_linked.specs.LeafAt.{last_leaf}
use Rattle.typst_linked.specs.LeafLooks.{HasWay, HasLookEachFork}
use Rattle.typst_linked.specs.declared.cursor.Side.TheVariants.{Before}
use Rattle.typst_linked.proofs.Child.{no_own_text}
use Rattle.typst_linked.proofs.Covers.{child_there}
use Rattle.typst_linked.proofs.LastLeaves.{empty_list, last_there_is, last_self, last_on, last_late, last_next, start_uncovered}
use Rattle.typst_linked.proofs.LeafWays.{way_on, fork_end, fork_on}
use Rattle.typst_linked.proofs.Ordered.{count_child}
use Rattle.typst_linked.proofs.Searching.{count_there, smaller_turn}
use Rattle.typst_node.proofs.PathSteps.{at-push}
use Rattle.typst_linked.proofs.Places.{same_node}
use Rattle.typst_linked.proofs.node.LinkedNode.+into_last.Goals as goal

pub returns-then-is_empty-clause-leaf : goal.returns-then-is_empty-clause-leaf
returns-then-is_empty-clause-leaf t c =
    let k = c.is_empty.ensures in
    let f = c.if-is_empty.ensures in
    let none : length c.child_slice.result.now ≡ 0 = grind (arith, nat_tests) in
    last_self (begin_of c.args.self) c.args.self c.get.result.now c.get.ensures (sym c.child_slice.ensures.children ∙ empty_list c.child_slice.result.now none)

pub returns-in_default-clause-leaf : goal.returns-in_default-clause-leaf
returns-in_default-clause-leaf t c =
    let n = c.get-2.result.now in
    let k = c.is_empty.ensures in
    let f = c.if-is_empty.ensures in
    let some : length c.child_slice.result.now ≡ 0 → ⊥ = λ e. grind (arith, nat_tests) in
    let same : length (trees c.get.result.now.children) ≡ length (trees n.children) = ap (λ (u : Tree). length (trees u.children)) (same_node c.get.result.now n c.args.self c.get.ensures c.get-2.ensures) in
    let child = last_there_is (trees n.children) (λ e. some (omega (arith, same, ap length c.child_slice.ensures.children))) in
    last_late (begin_of c.args.self) child.0 c.args.self n child.1 c.get-2.ensures child.2 child.3 (c.in_default.ensures.found child.0 child.3)

pub into_last-requires : goal.into_last-requires
into_last-requires t c =
    let n = c.get-2.result.now in
    let ts = trees n.children in
    let i = c.in-Some.part.index in
    let found = c.in-Some.ensures.found in
    let child = child_there ts i (omega (arith, found.last)) in
    let there = at-push c.args.self.path i c.args.self.root n child.0 c.get-2.ensures child.1 in
    let l = smaller_turn n child.0 c.args.self c.in_ok-child.child i ts c.get-2.ensures refl child.1 c.in_ok-child.ensures in (
      subst (λ (k : ℕ). count_there (subtree c.in_ok-child.child) < k) c.decreases l,
      λ x h.
          let is : subtree (child_place c.args.self i) ≡ Some x = ap subtree (sym c.in_ok-child.ensures) ∙ h in
          let one = same_node child.0 x (child_place c.args.self i) there is in
          let e : count child.0 ≡ count x = ap count one in
          omega (arith, e, count_child n child.0 i child.1, c.requires n c.get-2.ensures, c.in-Some.ensures.few),
    )

pub returns-clause-leaf : goal.returns-clause-leaf
returns-clause-leaf t c =
    let n = c.get-2.result.now in
    let ts = trees n.children in
    let i = c.in-Some.part.index in
    let found = c.in-Some.ensures.found in
    let child = child_there ts i (omega (arith, found.last)) in
    let bare : HasNoOwnText n = subst (λ (u : Tree). HasNoOwnText u) (same_node c.get.result.now n c.args.self c.get.ensures c.get-2.ensures) (λ j u s. no_own_text c.get.result.now u j c.child_slice.result.now c.child_slice.ensures.children c.child_slice.ensures.inner_only s) in
    let next = last_next i c.args.self n child.0 c.get-2.ensures bare child.1 found.last found.nothing in
    let q = c.in_ok-child.child in
    let b = begin_of c.args.self in
    let begin : begin_of q ≡ b = ap begin_of c.in_ok-child.ensures ∙ next.0 in
    let e : found_below (last_leaf Before (begin_of q) (begin_of q)) q ≡ found_below (last_leaf Before b b) c.args.self =
    (λ x. found_below (last_leaf Before (begin x) (begin x)) (c.in_ok-child.ensures x)) ∙ last_on b i c.args.self n child.0 c.get-2.ensures bare child.1 found.last found.nothing in
    IfOk-weaker c.into_last.result (λ r. r ≡ found_below (last_leaf Before (begin_of q) (begin_of q)) q) (λ r. r ≡ found_below (last_leaf Before b b) c.args.self) (λ r h. h ∙ e) c.into_last.ensures.leaf

pub returns-clause-looks : goal.returns-clause-looks
returns-clause-looks t c =
    let n = c.get-2.result.now in
    let ts = trees n.children in
    let i = c.in-Some.part.index in
    let found = c.in-Some.ensures.found in
    let child = child_there ts i (omega (arith, found.last)) in
    let bare : HasNoOwnText n = subst (λ (u : Tree). HasNoOwnText u) (same_node c.get.result.now n c.args.self c.get.ensures c.get-2.ensures) (λ j u s. no_own_text c.get.result.now u j c.child_slice.result.now c.child_slice.ensures.children c.child_slice.ensures.inner_only s) in
    let next = last_next i c.args.self n child.0 c.get-2.ensures bare child.1 found.last found.nothing in
    let q = c.in_ok-child.child in
    let there = at-push c.args.self.path i c.args.self.root n child.0 c.get-2.ensures child.1 in
    let begin : begin_of q ≡ begin_of c.args.self = ap begin_of c.in_ok-child.ensures ∙ next.0 in
    way_on Before (begin_of c.args.self) c.args.looks.now c.last_at_once.new.looks c.into_last.new.looks i c.args.self q n child.0 c.get-2.ensures child.1 (ap subtree c.in_ok-child.ensures ∙ there) c.in_ok-child.ensures
    next.1 c.in-Some.ensures.cost (λ cover. absurd (start_uncovered c.args.self n c.get-2.ensures cover)) (subst (λ b. HasWay Before b q c.last_at_once.new.looks c.into_last.new.looks) begin c.into_last.ensures.looks)

pub returns-then-is_empty-clause-forks : goal.returns-then-is_empty-clause-forks
returns-then-is_empty-clause-forks t c =
    let k = c.is_empty.ensures in
    let f = c.if-is_empty.ensures in
    let none : length c.child_slice.result.now ≡ 0 = grind (arith, nat_tests) in
    fork_end c.args.self c.get.result.now c.args.looks.now c.get.ensures (sym c.child_slice.ensures.children ∙ empty_list c.child_slice.result.now none)

pub returns-clause-forks : goal.returns-clause-forks
returns-clause-forks t c =
    let n = c.get-2.result.now in
    let i = c.in-Some.part.index in
    let found = c.in-Some.ensures.found in
    let child = child_there (trees n.children) i (omega (arith, found.last)) in
    let there = at-push c.args.self.path i c.args.self.root n child.0 c.get-2.ensures child.1 in
    IfOk-weaker c.into_last.result (λ r. IfSome r (HasLookEachFork c.in_ok-child.child c.last_at_once.new.looks c.into_last.new.looks)) (λ r. IfSome r (HasLookEachFork c.args.self c.args.looks.now c.into_last.new.looks))
    (λ r. elim r as (λ o. IfSome o (HasLookEachFork c.in_ok-child.child c.last_at_once.new.looks c.into_last.new.looks) → IfSome o (HasLookEachFork c.args.self c.args.looks.now c.into_last.new.looks)) [
      | None ↦ λ h. tt
      | Some found ↦ λ h. fork_on c.args.looks.now c.last_at_once.new.looks c.into_last.new.looks i c.args.self c.in_ok-child.child found n child.0 c.get-2.ensures child.1 (ap subtree c.in_ok-child.ensures ∙ there) c.in_ok-child.ensures c.in-Some.ensures.forks h
    ]) c.into_last.ensures.forks
