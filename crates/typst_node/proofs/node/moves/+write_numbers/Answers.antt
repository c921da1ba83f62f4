use Rattle.std.proofs.Common.{arith, ◌≡◌, ◌+◌, ◌-◌, ◌<◌, ◌∷◌, ◌++◌, length, set, drop, sym, ap, ◌∙◌, length-take, length-drop}
use Rattle.std.proofs.lemmas.List.{length-set}
use Rattle.typst_node.specs.Preorder.{preorder}
use Rattle.typst_node.specs.Labels.{number}
use Rattle.typst_node.specs.Count.{count_of_all}
use Rattle.typst_node.specs.Moves.{numbers}
use Rattle.typst_node.proofs.Trees.{count_of_trees}
use Rattle.typst_node.proofs.Opens.{count_split}
use Rattle.typst_node.proofs.Following.{numbers_next, count_next, length_numbers, written}
use Rattle.typst_node.proofs.node.moves.+write_numbers.Goals as goal

pub overflow_add-end : goal.overflow_add-end
overflow_add-end t c =
    let nodes = c.args.nodes.now in
    let i = c.loop-node.node-index in
    let next = count_next nodes i c.node-item.result c.loop-node-test.true c.node-item.is in
    omega (arith, next, count_split (i + 1) nodes, c.loop-node.invariant.at_is, c.loop-node.auto.out, c.requires, c.descendants.ensures)

pub bounds-out-at : goal.bounds-out-at
bounds-out-at t c =
    let nodes = c.args.nodes.now in
    let i = c.loop-node.node-index in
    let next = count_next nodes i c.node-item.result c.loop-node-test.true c.node-item.is in
    omega (arith, next, count_split (i + 1) nodes, c.loop-node.invariant.at_is, c.loop-node.auto.out, c.requires)

pub slice_bounds-write_numbers-end : goal.slice_bounds-write_numbers-end
slice_bounds-write_numbers-end t c =
    let nodes = c.args.nodes.now in
    let i = c.loop-node.node-index in
    let next = count_next nodes i c.node-item.result c.loop-node-test.true c.node-item.is in
    omega (arith, next, count_split (i + 1) nodes, c.loop-node.invariant.at_is, c.loop-node.auto.out, c.requires, c.descendants.ensures, length-set c.loop-node.out c.loop-node.at c.number.result)

pub write_numbers-requires : goal.write_numbers-requires
write_numbers-requires t c =
    let nodes = c.args.nodes.now in
    let i = c.loop-node.node-index in
    let next = count_next nodes i c.node-item.result c.loop-node-test.true c.node-item.is in
    let kids : count_of_all c.child_slice.result.now ≡ length (preorder c.node-item.result.children) = ap count_of_all c.child_slice.ensures.children ∙ count_of_trees c.node-item.result.children in
    let out = set c.loop-node.out c.loop-node.at c.number.result in
    let long : length out ≡ length c.loop-node.out = length-set c.loop-node.out c.loop-node.at c.number.result in
    let few = count_split (i + 1) nodes in (
      omega (arith, c.decreases, next, few, kids),
      omega (arith, next, few, kids, long, c.loop-node.invariant.at_is, c.loop-node.auto.out, c.requires, c.descendants.ensures, length-take (c.loop-node.at + c.descendants.result - (c.loop-node.at + 1)) (drop (c.loop-node.at + 1) out), length-drop (c.loop-node.at + 1) out),
    )

pub loop-node-preserved : goal.loop-node-preserved
loop-node-preserved t c =
    let nodes = c.args.nodes.now in
    let i = c.loop-node.node-index in
    let at = c.loop-node.at in
    let end = at + c.descendants.result in
    let next = count_next nodes i c.node-item.result c.loop-node-test.true c.node-item.is in
    let kids : count_of_all c.child_slice.result.now ≡ length (preorder c.node-item.result.children) = ap count_of_all c.child_slice.ensures.children ∙ count_of_trees c.node-item.result.children in
    let ys = c.write_numbers.new.out in
    let many : length ys ≡ count_of_all c.child_slice.result.now = ap length c.write_numbers.ensures ∙ length_numbers c.child_slice.result.now in
    let there : at < length c.loop-node.out = omega (arith, next, count_split (i + 1) nodes, c.loop-node.invariant.at_is, c.loop-node.auto.out, c.requires) in
    let num : c.number.result ≡ number c.node-item.result.label = c.number.ensures.is ∙ ap (λ s. s.low) c.span.ensures in
    record {
      at_is = omega (arith, next, c.loop-node.invariant.at_is, c.descendants.ensures);
      so_far =
          written c.loop-node.out at end c.number.result ys there (omega (arith, many, kids, c.descendants.ensures))
          ∙ ((λ k. c.loop-node.invariant.so_far k ++ (num k ∷ (c.write_numbers.ensures ∙ ap numbers c.child_slice.ensures.children) k)) ∙ sym (numbers_next nodes i c.node-item.result c.loop-node-test.true c.node-item.is));
    }
