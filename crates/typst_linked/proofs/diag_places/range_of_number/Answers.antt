use Rattle.std.proofs.Common.{◌∙◌, List, length, arith, refl, ap, sym}
use Rattle.std.specs.Prelude.{slice_get}
use Rattle.std.proofs.lemmas.Option.{slice_get_read, slice_get_within}
use Rattle.typst_node.specs.Tree.{Tree, trees}
use Rattle.typst_linked.proofs.Ordered.{count_child}
use Rattle.typst_linked.proofs.Descent.{descent_below, descent_start, descent_room, descent_fits, descent_next, descent_none, descent_found}
use Rattle.typst_linked.proofs.diag_places.range_of_number.Goals as goal

pub returns-then-wanted-number-clause-range : goal.returns-then-wanted-number-clause-range
returns-then-wanted-number-clause-range c = λ num. descent_below c.args.root.now c.args.wanted c.number_of-number.result c.number_of-number.ensures.number c.if-wanted-number.true num

pub loop-number-init : goal.loop-number-init
loop-number-init c =
    descent_start c.args.root.now c.args.wanted c.number_of-number.new.self c.len.result c.descendants.result c.number_of-number.result (omega (arith, c.number_of-number.ensures.counted, c.new-looks.ensures)) c.number_of-number.ensures.number c.if-wanted-number.false c.len.ensures c.len.type_inv c.descendants.ensures c.descendants.type_inv

pub last_up_to-requires : goal.last_up_to-requires
last_up_to-requires c = descent_room c.args.root.now c.loop-number.node.now c.loop-number.begin c.args.wanted c.loop-number.looks c.child_slice-children.result.now c.child_slice-children.ensures.children c.loop-number.invariant.1

pub returns-in_err-next-clause-range : goal.returns-in_err-next-clause-range
returns-in_err-next-clause-range c = λ num.
    c.from_residual.ensures ∙ descent_none c.args.root.now c.loop-number.node.now c.loop-number.begin c.args.wanted c.loop-number.looks c.loop-number.number c.child_slice-children.result.now c.child_slice-children.ensures.children c.loop-number.invariant.1 c.loop-number.invariant.0 c.loop-number-test.true c.in_err-next.ensures.later num

pub child_begin-begin-requires : goal.child_begin-begin-requires
child_begin-begin-requires c =
    let f = c.in_ok-next.ensures.found in
    omega (arith, ap length c.child_slice-children.ensures.children, slice_get_within c.child_slice-children.result.now c.in_ok-next.next.index f.1.0 f.1.1)

pub overflow_add-begin : goal.overflow_add-begin
overflow_add-begin c =
    let f = c.in_ok-next.ensures.found in
    omega (arith, descent_fits c.args.root.now c.loop-number.node.now f.1.0 c.loop-number.begin c.args.wanted c.loop-number.looks c.in_ok-next.next.index c.child_begin-begin.result c.child_slice-children.result.now c.child_slice-children.ensures.children f.1.1 c.child_begin-begin.ensures c.loop-number.invariant.1)

pub loop-number-smaller : goal.loop-number-smaller
loop-number-smaller c =
    let f = c.in_ok-next.ensures.found in
    let s = slice_get_read c.child_slice-children.result.now (length c.child_slice-children.result.now) c.in_ok-next.next.index c.index-children-next.result refl (slice_get_within c.child_slice-children.result.now c.in_ok-next.next.index f.1.0 f.1.1) c.index-children-next.is in
    let s = ap (λ (ks : List Tree). slice_get ks c.in_ok-next.next.index) (sym c.child_slice-children.ensures.children) ∙ s in
    omega (arith, count_child c.loop-number.node.now c.index-children-next.result c.in_ok-next.next.index s, slice_get_within (trees c.loop-number.node.now.children) c.in_ok-next.next.index c.index-children-next.result s)

pub loop-number-preserved : goal.loop-number-preserved
loop-number-preserved c =
    let e = c.in_ok-next.ensures in
    descent_next c.args.root.now c.loop-number.node.now c.index-children-next.result c.loop-number.begin c.args.wanted c.loop-number.looks c.last_up_to.new.looks c.in_ok-next.next.index c.in_ok-next.next.number c.child_begin-begin.result c.child_slice-children.result.now c.child_slice-children.ensures.children c.child_slice-children.ensures.inner_only (slice_get_read c.child_slice-children.result.now (length c.child_slice-children.result.now) c.in_ok-next.next.index c.index-children-next.result refl (slice_get_within c.child_slice-children.result.now c.in_ok-next.next.index e.found.1.0 e.found.1.1) c.index-children-next.is) e.found e.later e.cost e.few e.least c.child_begin-begin.ensures c.loop-number.invariant.1

pub returns-clause-range : goal.returns-clause-range
returns-clause-range c = λ num. descent_found c.args.root.now c.loop-number.node.now c.loop-number.begin c.args.wanted c.loop-number.looks c.len-2.result c.loop-number.invariant.1 (c.loop-number.invariant.0 ∙ c.loop-number-test.false) c.len-2.ensures num
