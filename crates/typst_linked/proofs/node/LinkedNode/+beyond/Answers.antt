use Rattle.std.proofs.Common.{◌≡◌, [], ◌∙◌, IfOk, MatchOption, Some, length, subst, sym, ap, arith, List}
use Rattle.typst_linked.specs.Place.{Place, subtree, child_place, last_step}
use Rattle.typst_linked.specs.Onwards.{places_behind, places_from}
use Rattle.typst_linked.proofs.Onwards.{beyond_sibling, beyond_parent}
use Rattle.typst_linked.proofs.Places.{child_within, some_of}
use Rattle.typst_linked.proofs.node.LinkedNode.+beyond.Goals as goal

pub returns-then-index-siblings : goal.returns-then-index-siblings
returns-then-index-siblings t c =
    let here = c.in-Some.ensures.parent ∙ ap (child_place c.in-Some.parent.now.value) (sym c.index-index.ensures) in
    beyond_sibling c.args.self.now c.in-Some.parent.now.value c.in_ok-nth_child.field-0 c.get.result.now c.child_slice-siblings.result.now c.index-index.result (ap subtree (sym c.deref.ensures) ∙ c.get.ensures) c.child_slice-siblings.ensures.children here (omega arith) c.in_ok-nth_child.ensures

pub returns : goal.returns
returns t c =
    let here = c.in-Some.ensures.parent ∙ ap (child_place c.in-Some.parent.now.value) (sym c.index-index.ensures) in
    let e = beyond_parent c.args.self.now c.in-Some.parent.now.value c.get.result.now c.child_slice-siblings.result.now c.index-index.result (ap subtree (sym c.deref.ensures) ∙ c.get.ensures) c.child_slice-siblings.ensures.children here (omega arith) in
    let from_parent : places_behind c.args.self.now ≡ places_behind c.deref-2.result.now = e ∙ ap places_behind (sym c.deref-2.ensures) in
    subst (λ (ps : List Place). IfOk c.beyond.result (λ next. MatchOption next (ps ≡ []) (λ place. ps ≡ places_from place))) (sym from_parent) c.beyond.ensures

pub overflow_add-index : goal.overflow_add-index
overflow_add-index t c =
    let found = some_of (subtree c.args.self.now) c.in-Some.ensures.there in
    let m = c.get.result.now in
    let above : subtree c.in-Some.parent.now.value ≡ Some m = ap subtree (sym c.deref.ensures) ∙ c.get.ensures in
    let own : subtree (child_place c.in-Some.parent.now.value (last_step c.args.self.now.path)) ≡ Some found.0 = ap subtree (sym c.in-Some.ensures.parent) ∙ found.1 in
    omega (arith, c.index-index.ensures, child_within c.in-Some.parent.now.value (last_step c.args.self.now.path) m found.0 above own, ap length c.child_slice-siblings.ensures.children)
