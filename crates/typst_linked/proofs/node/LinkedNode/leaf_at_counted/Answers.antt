use Rattle.std.proofs.Common.{◌≡◌, ◌+◌, ◌∙◌, Some, None, true, false, ap, subst, sym, length, arith}
use Rattle.std.proofs.lemmas.Bool.Decides.{nat_tests}
use Rattle.std.proofs.lemmas.Result.{IfOk-weaker}
use Rattle.typst_node.specs.Text.{text}
use Rattle.typst_linked.specs.Place.{Place}
use Rattle.typst_linked.specs.Ranges.{begin_of}
use Rattle.typst_linked.specs.Search.{found_below}
use Rattle.typst_linked.specs.LeafAt.{covers_cursor, begins_at_cursor, is_childless, last_leaf, leaf_place, IsCoveringBelow}
use Rattle.typst_linked.specs.LeafLooks.{HasLookEachCover}
use Rattle.typst_linked.specs.declared.cursor.Side.TheVariants.{Before}
use Rattle.typst_linked.proofs.LastLeaves.{not_childless, leaf_last, leaf_none, last_uncovered}
use Rattle.typst_linked.proofs.LeafWays.{leaf_covering}
use Rattle.typst_linked.proofs.node.LinkedNode.leaf_at_counted.Goals as goal

pub returns-then-covers-clause-found : goal.returns-then-covers-clause-found
returns-then-covers-clause-found c =
    let n = c.get-2.result.now in
    let k = c.is_empty.ensures in
    let f = c.if-is_empty.ensures in
    let inner : is_childless n ≡ false = not_childless n (λ e. let l : length c.child_slice.result.now ≡ 0 = ap length c.child_slice.ensures.children ∙ e in grind (arith, nat_tests)) in
    leaf_covering c.args.side c.args.cursor c.args.self.now c.in_ok-leaf.leaf n c.get-2.ensures inner
    (subst (λ (p : Place). IsCoveringBelow c.args.side c.args.cursor p c.in_ok-leaf.leaf) c.in_ok-clone-2.ensures.cases c.in_ok-leaf.ensures.leaf)

pub returns-then-begins-clause-found : goal.returns-then-begins-clause-found
returns-then-begins-clause-found c =
    let n = c.get-2.result.now in
    let k = c.is_empty.ensures in
    let f = c.if-is_empty.ensures in
    let inner : is_childless n ≡ false = not_childless n (λ e. let l : length c.child_slice.result.now ≡ 0 = ap length c.child_slice.ensures.children ∙ e in grind (arith, nat_tests)) in
    let end : c.range-range.result.end ≡ begin_of c.args.self.now + length (text n) = omega (arith, c.range-range.ensures.start, c.range-range.ensures.end n c.get-2.ensures) in
    let out : covers_cursor c.args.side c.args.cursor (begin_of c.args.self.now) (begin_of c.args.self.now + length (text n)) ≡ false =
    sym (λ x. covers_cursor c.args.side c.args.cursor (c.range-range.ensures.start x) (end x)) ∙ sym c.covers.ensures ∙ c.if-covers.false in
    let begins : begins_at_cursor c.args.side c.args.cursor (begin_of c.args.self.now) ≡ true =
    ap (begins_at_cursor c.args.side c.args.cursor) (sym c.range-range.ensures.start) ∙ sym c.begins.ensures ∙ c.if-begins.true in
    let q = c.in_ok-clone-3.field-0 in
    let e = leaf_last c.args.side c.args.cursor c.args.self.now q n c.in_ok-clone-3.ensures.cases c.get-2.ensures inner out begins in
    IfOk-weaker c.into_last.result (λ r. r ≡ found_below (last_leaf Before (begin_of q) (begin_of q)) q) (λ r. r ≡ leaf_place c.args.side c.args.cursor c.args.self.now) (λ r h. h ∙ e) c.into_last.ensures.leaf

pub returns-then-begins-clause-steps : goal.returns-then-begins-clause-steps
returns-then-begins-clause-steps c =
    let q = c.in_ok-clone-3.field-0 in
    let begins : begins_at_cursor c.args.side c.args.cursor (begin_of c.args.self.now) ≡ true =
    ap (begins_at_cursor c.args.side c.args.cursor) (sym c.range-range.ensures.start) ∙ sym c.begins.ensures ∙ c.if-begins.true in
    IfOk-weaker c.into_last.result (λ r. r ≡ found_below (last_leaf Before (begin_of q) (begin_of q)) q) (HasLookEachCover c.args.side c.args.cursor c.args.self.now c.into_last.new.looks)
    (λ r. elim r as (λ o. o ≡ found_below (last_leaf Before (begin_of q) (begin_of q)) q → HasLookEachCover c.args.side c.args.cursor c.args.self.now c.into_last.new.looks o) [
      | None ↦ λ h. tt
      | Some found ↦ λ h cover. absurd (last_uncovered c.args.side c.args.cursor c.args.self.now q found c.get-2.result.now c.in_ok-clone-3.ensures.cases c.get-2.ensures begins h cover)
    ]) c.into_last.ensures.leaf

pub returns-clause-found : goal.returns-clause-found
returns-clause-found c =
    let n = c.get-2.result.now in
    let k = c.is_empty.ensures in
    let f = c.if-is_empty.ensures in
    let inner : is_childless n ≡ false = not_childless n (λ e. let l : length c.child_slice.result.now ≡ 0 = ap length c.child_slice.ensures.children ∙ e in grind (arith, nat_tests)) in
    let end : c.range-range.result.end ≡ begin_of c.args.self.now + length (text n) = omega (arith, c.range-range.ensures.start, c.range-range.ensures.end n c.get-2.ensures) in
    let out : covers_cursor c.args.side c.args.cursor (begin_of c.args.self.now) (begin_of c.args.self.now + length (text n)) ≡ false =
    sym (λ x. covers_cursor c.args.side c.args.cursor (c.range-range.ensures.start x) (end x)) ∙ sym c.covers.ensures ∙ c.if-covers.false in
    let begins : begins_at_cursor c.args.side c.args.cursor (begin_of c.args.self.now) ≡ false =
    ap (begins_at_cursor c.args.side c.args.cursor) (sym c.range-range.ensures.start) ∙ sym c.begins.ensures ∙ c.if-begins.false in
    leaf_none c.args.side c.args.cursor c.args.self.now n c.get-2.ensures inner out begins
