use Rattle.std.proofs.Common.{◌≡◌, ◌<◌, length, ap, ◌∙◌, arith}
use Rattle.std.proofs.lemmas.Bool.Decides.{nat_tests}
use Rattle.typst_linked.specs.Place.{child_place}
use Rattle.typst_linked.proofs.Onwards.{behind_leaf, onwards_leaf, onwards_child}
use Rattle.typst_linked.proofs.node.LinkedNode.following.Goals as goal

pub returns-then-is_empty : goal.returns-then-is_empty
returns-then-is_empty c =
    let k = c.is_empty.ensures in
    let f = c.if-is_empty.ensures in
    let empty : length c.child_slice.result.now ≡ 0 = grind (arith, nat_tests) in
    let leaf = onwards_leaf c.args.self.now c.get.result.now c.child_slice.result.now c.get.ensures c.child_slice.ensures.children empty in
    behind_leaf c.args.self.now c.beyond.result leaf c.beyond.ensures

pub returns : goal.returns
returns c =
    let k = c.is_empty.ensures in
    let f = c.if-is_empty.ensures in
    let some : 0 < length c.child_slice.result.now = grind (arith, nat_tests) in
    onwards_child c.args.self.now c.in_ok-into_child.field-0 c.get.result.now c.child_slice.result.now c.get.ensures c.child_slice.ensures.children some (c.in_ok-into_child.ensures ∙ ap (λ p. child_place p 0) c.in_ok-clone.ensures.cases)
