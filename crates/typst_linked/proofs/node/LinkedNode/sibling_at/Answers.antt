use Rattle.std.proofs.Common.{◌≡◌, ◌∙◌, length, ap, sym, arith, Some}
use Rattle.std.specs.Option.{option_map}
use Rattle.typst_node.specs.Tree.{trees}
use Rattle.typst_linked.specs.Place.{Place, child_place, last_step}
use Rattle.typst_linked.specs.Siblings.{siblings, parent_place}
use Rattle.typst_linked.proofs.Nearest.{siblings-child, parent_of_child}
use Rattle.typst_linked.proofs.node.LinkedNode.sibling_at.Goals as goal

pub nth_child-requires : goal.nth_child-requires
nth_child-requires c = record {
  child = λ t ht.
      let place = c.in-Some-Some.ensures.parent in
      let same : siblings c.args.self.now ≡ trees t.children = ap siblings place ∙ siblings-child c.in-Some-Some.parent.now.value (last_step c.args.self.now.path) t ht in
      omega (arith, c.requires c.in-Some-Some.index c.in-Some-Some.is-1, ap length same);
}

pub returns : goal.returns
returns c =
    let place = c.in-Some-Some.ensures.parent in
    let parent : parent_place c.args.self.now ≡ c.in-Some-Some.parent.now.value = ap parent_place place ∙ parent_of_child c.in-Some-Some.parent.now.value (last_step c.args.self.now.path) in
    ap Some c.in_ok-nth_child.ensures ∙ sym (ap (option_map (child_place (parent_place c.args.self.now))) c.in-Some-Some.is-1 ∙ ap (λ (p : Place). Some (child_place p c.in-Some-Some.index)) parent)
