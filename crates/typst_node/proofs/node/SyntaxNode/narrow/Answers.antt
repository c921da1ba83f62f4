use Rattle.std.proofs.Common.{◌≡◌, ◌-◌, ◌<◌, ◌^◌, length, take, drop, reverse, sym, ap, subst, ◌∙◌, arith, Some, None, length-take, length-drop}
use Rattle.std.specs.Prelude.{slice_range}
use Rattle.typst_node.specs.Tree.{Tree, trees}
use Rattle.typst_node.specs.Paths.{tree_at, trees_at}
use Rattle.typst_node.specs.Narrowing.{edit_in, edit_along, replaced_by, steps_within, IsTrail, IsTrailOf, IsTraced, LeadDown, LeadOn}
use Rattle.typst_node.proofs.Trails.{all_lead_on, leads_on, leads_down, leaf_below, leaf_found, none_found, traced_trail}
use Rattle.typst_node.proofs.node.SyntaxNode.narrow.Goals as goal

pub descend-requires : goal.descend-requires
descend-requires c =
    let e = edit_in c.args.edit.now in
    let t = c.args.self.now in
    let node : c.node_at-node.result.now ≡ tree_at e.path t = c.node_at-node.ensures ∙ ap (λ p. tree_at p t) c.deref.ensures.value in
    let kids : c.child_slice.result.now ≡ trees_at e.path t = c.child_slice.ensures.children ∙ ap (λ (n : Tree). trees n.children) node in
    let rows : slice_range c.child_slice.result.now e.from e.to ≡ replaced_by e t = ap (λ ts. slice_range ts e.from e.to) kids in
    let trail : IsTrailOf (slice_range c.child_slice.result.now e.from e.to) e.others c.trace.new.trail =
    traced_trail (slice_range c.child_slice.result.now e.from e.to) e.others c.trace.new.trail c.in_ok-trace.field-0
    (subst (λ ys. IsTraced (slice_range c.child_slice.result.now e.from e.to) ys c.trace.new.trail c.in_ok-trace.field-0) c.deref-2.ensures.value c.in_ok-trace.ensures) in
    let way = all_lead_on e t c.node_at-node.result.now c.requires (slice_range c.child_slice.result.now e.from e.to) rows node (reverse c.trace.new.trail.steps.items) e c.trace.new.trail.leaf trail in
    subst (LeadOn e c.node_at-node.result.now) (sym (c.deref-in-Some.ensures.value ∙ c.reverse.ensures.items)) way

pub overflow_add-result : goal.overflow_add-result
overflow_add-result c =
    let e = edit_in c.args.edit.now in
    let t = c.args.self.now in
    let node : c.node_at-node.result.now ≡ tree_at e.path t = c.node_at-node.ensures ∙ ap (λ p. tree_at p t) c.deref.ensures.value in
    let kids : c.child_slice.result.now ≡ trees_at e.path t = c.child_slice.ensures.children ∙ ap (λ (n : Tree). trees n.children) node in
    let rows = slice_range c.child_slice.result.now e.from e.to in
    let trail : IsTrailOf rows e.others c.trace.new.trail =
    traced_trail rows e.others c.trace.new.trail c.in_ok-trace.field-0 (subst (λ ys. IsTraced rows ys c.trace.new.trail c.in_ok-trace.field-0) c.deref-2.ensures.value c.in_ok-trace.ensures) in
    let here : IsTrail rows e.others (reverse c.trace.new.trail.steps.items) (Some c.in-Some.index) = subst (IsTrail rows e.others (reverse c.trace.new.trail.steps.items)) c.in-Some.is trail in
    let most : length rows ≡ e.to - e.from = omega (arith, c.requires.3, length-take (e.to - e.from) (drop e.from c.child_slice.result.now), length-drop e.from c.child_slice.result.now, ap length kids) in
    let is = c.in_ok-descend.ensures ∙ ap (edit_along e c.node_at-node.result.now) (c.deref-in-Some.ensures.value ∙ c.reverse.ensures.items) in
    let found = leaf_found e t c.node_at-node.result.now c.requires rows (ap (λ ts. slice_range ts e.from e.to) kids) node (reverse c.trace.new.trail.steps.items) (edit_in c.descend.new.self) c.in-Some.index here is in
    let few : c.in-Some.index < 2 ^ 64 = omega (arith, found.1.other, c.descend.new.self.others.small, c.descend.new.self.others.ok) in
    let few = leaf_below e c.node_at-node.result.now rows (reverse c.trace.new.trail.steps.items) c.in-Some.index (2 ^ 64) here (omega (arith, most, c.requires.2)) few in
    omega (arith, few, ap (λ f. f.from) is)

pub returns-in-Some : goal.returns-in-Some
returns-in-Some c =
    let e = edit_in c.args.edit.now in
    let t = c.args.self.now in
    let node : c.node_at-node.result.now ≡ tree_at e.path t = c.node_at-node.ensures ∙ ap (λ p. tree_at p t) c.deref.ensures.value in
    let kids : c.child_slice.result.now ≡ trees_at e.path t = c.child_slice.ensures.children ∙ ap (λ (n : Tree). trees n.children) node in
    let rows = slice_range c.child_slice.result.now e.from e.to in
    let trail : IsTrailOf rows e.others c.trace.new.trail =
    traced_trail rows e.others c.trace.new.trail c.in_ok-trace.field-0 (subst (λ ys. IsTraced rows ys c.trace.new.trail c.in_ok-trace.field-0) c.deref-2.ensures.value c.in_ok-trace.ensures) in
    let here : IsTrail rows e.others (reverse c.trace.new.trail.steps.items) (Some c.in-Some.index) = subst (IsTrail rows e.others (reverse c.trace.new.trail.steps.items)) c.in-Some.is trail in
    leaf_found e t c.node_at-node.result.now c.requires rows (ap (λ ts. slice_range ts e.from e.to) kids) node (reverse c.trace.new.trail.steps.items) (edit_in c.descend.new.self) c.in-Some.index here
    (c.in_ok-descend.ensures ∙ ap (edit_along e c.node_at-node.result.now) (c.deref-in-Some.ensures.value ∙ c.reverse.ensures.items))

pub count_steps-steps-requires : goal.count_steps-steps-requires
count_steps-steps-requires c =
    let e = edit_in c.args.edit.now in
    let rows = slice_range c.child_slice.result.now e.from e.to in
    let trail : IsTrailOf rows e.others c.trace.new.trail =
    traced_trail rows e.others c.trace.new.trail c.in_ok-trace.field-0 (subst (λ ys. IsTraced rows ys c.trace.new.trail c.in_ok-trace.field-0) c.deref-2.ensures.value c.in_ok-trace.ensures) in
    coe 1 0 (i. LeadDown rows (c.deref-3.ensures.value i) ((c.deref-4.ensures.value ∙ c.reverse.ensures.items) i)) (leads_down rows e.others (reverse c.trace.new.trail.steps.items) c.trace.new.trail.leaf trail)

pub descend-requires-2 : goal.descend-requires-2
descend-requires-2 c =
    let e = edit_in c.args.edit.now in
    let t = c.args.self.now in
    let node : c.node_at-node.result.now ≡ tree_at e.path t = c.node_at-node.ensures ∙ ap (λ p. tree_at p t) c.deref.ensures.value in
    let kids : c.child_slice.result.now ≡ trees_at e.path t = c.child_slice.ensures.children ∙ ap (λ (n : Tree). trees n.children) node in
    let rows = slice_range c.child_slice.result.now e.from e.to in
    let trail : IsTrailOf rows e.others c.trace.new.trail =
    traced_trail rows e.others c.trace.new.trail c.in_ok-trace.field-0 (subst (λ ys. IsTraced rows ys c.trace.new.trail c.in_ok-trace.field-0) c.deref-2.ensures.value c.in_ok-trace.ensures) in
    subst (λ path. LeadOn e c.node_at-node.result.now (take (c.count_steps-steps.result - 0) path)) (sym (c.deref-5.ensures.value ∙ c.reverse.ensures.items))
    (leads_on e t c.node_at-node.result.now c.requires rows (ap (λ ts. slice_range ts e.from e.to) kids) node (reverse c.trace.new.trail.steps.items) (c.count_steps-steps.result - 0) c.trace.new.trail.leaf trail)

pub returns : goal.returns
returns c =
    let e = edit_in c.args.edit.now in
    let t = c.args.self.now in
    let node : c.node_at-node.result.now ≡ tree_at e.path t = c.node_at-node.ensures ∙ ap (λ p. tree_at p t) c.deref.ensures.value in
    let kids : c.child_slice.result.now ≡ trees_at e.path t = c.child_slice.ensures.children ∙ ap (λ (n : Tree). trees n.children) node in
    let rows = slice_range c.child_slice.result.now e.from e.to in
    let way = reverse c.trace.new.trail.steps.items in
    let trail : IsTrailOf rows e.others c.trace.new.trail =
    traced_trail rows e.others c.trace.new.trail c.in_ok-trace.field-0 (subst (λ ys. IsTraced rows ys c.trace.new.trail c.in_ok-trace.field-0) c.deref-2.ensures.value c.in_ok-trace.ensures) in
    let here : IsTrail rows e.others way None = subst (IsTrail rows e.others way) c.in_default.is trail in
    let steps : c.count_steps-steps.result - 0 ≡ steps_within rows e.others way =
    omega (arith, c.count_steps-steps.ensures.is ∙ (λ i. steps_within rows (c.deref-3.ensures.value i) ((c.deref-4.ensures.value ∙ c.reverse.ensures.items) i))) in
    none_found e t c.node_at-node.result.now c.requires rows (ap (λ ts. slice_range ts e.from e.to) kids) node way (edit_in c.descend-2.new.self) here
    (c.in_ok-descend-2.ensures ∙ (λ i. edit_along e c.node_at-node.result.now (take (steps i) ((c.deref-5.ensures.value ∙ c.reverse.ensures.items) i))))
