use Rattle.std.proofs.Common.{map, arith, ap, sym, refl, ◌∙◌, true, false}
use Rattle.typst_node.specs.Tree.{trees}
use Rattle.typst_node.specs.Count.{count, count_of_all}
use Rattle.typst_node.specs.Plain.{plain}
use Rattle.typst_node.specs.Narrowing.{IsTraced}
use Rattle.typst_node.proofs.Trails.{alike_if_kids, unlike_if_kids, lists_differ, only_pair, more_pairs, rest_is}
use Rattle.typst_node.proofs.Trees.{count_at}
use Rattle.typst_node.proofs.WholeTreeEdited.{count_tree}
use Rattle.typst_node.proofs.node.+trace.Goals as goal

pub SyntaxNode::pair-trace-requires : goal.SyntaxNode::pair-trace-requires
SyntaxNode::pair-trace-requires t c = (omega (arith, c.decreases, count_tree c.args.self.now, ap count_of_all c.child_slice.ensures.children), c.requires)

pub SyntaxNode::pair-returns-then-alike : goal.SyntaxNode::pair-returns-then-alike
SyntaxNode::pair-returns-then-alike t c =
    let x = c.args.self.now in
    let y = c.args.other.now in
    let kids : IsTraced (trees x.children) (trees y.children) c.trace.new.trail true =
    coe 0 1 (i. IsTraced (c.child_slice.ensures.children i) (c.child_slice-then-goes_on_as.ensures.children i) c.trace.new.trail (c.if-alike.true i)) c.in_ok-alike.ensures in
    (alike_if_kids x y (c.if-goes_on_as.ensures.0 refl) kids.0, kids.1)

pub SyntaxNode::pair-returns-else-alike : goal.SyntaxNode::pair-returns-else-alike
SyntaxNode::pair-returns-else-alike t c =
    let x = c.args.self.now in
    let y = c.args.other.now in
    let kids : IsTraced (trees x.children) (trees y.children) c.trace.new.trail false =
    coe 0 1 (i. IsTraced (c.child_slice.ensures.children i) (c.child_slice-then-goes_on_as.ensures.children i) c.trace.new.trail (c.if-alike.false i)) c.in_ok-alike.ensures in
    (unlike_if_kids x y kids.0, c.if-goes_on_as.ensures.0 refl, kids.1)

pub narrow::trace-pair-requires : goal.narrow::trace-pair-requires
narrow::trace-pair-requires t c =
    (omega (arith, c.decreases, count_at c.args.nodes.now c.loop-i.i c.index-nodes-i.result (omega arith), ap count c.index-nodes-i.is), c.loop-i.invariant.1)

pub narrow::trace-returns-in_ok-raise-in_default : goal.narrow::trace-returns-in_ok-raise-in_default
narrow::trace-returns-in_ok-raise-in_default t c =
    let xs = c.args.nodes.now in
    let ys = c.args.others.now in
    let i = c.loop-i.i in (
      lists_differ xs ys i c.index-nodes-i.result c.index-others-i.result (omega (arith, c.if-nodes-others.false)) (omega arith) c.index-nodes-i.is c.index-others-i.is c.pair.new.trail c.in_ok-paired.paired c.in_default.not-Alike c.in_ok-paired.ensures,
      only_pair xs ys i c.index-nodes-i.result c.index-others-i.result (omega (arith, c.if-nodes-others.false)) (omega arith) c.index-nodes-i.is c.index-others-i.is c.pair.new.trail c.in_ok-paired.paired c.in_default.not-Alike c.in_ok-paired.ensures
          c.loop-i.invariant.0 (ap (map plain) (sym (rest_is xs i)) ∙ (c.if-all_alike.ensures.0 refl ∙ ap (map plain) (rest_is ys i))) c.raise.new.self c.in_ok-raise-in_default.ensures,
    )

pub narrow::trace-returns-else-all_alike : goal.narrow::trace-returns-else-all_alike
narrow::trace-returns-else-all_alike t c =
    let xs = c.args.nodes.now in
    let ys = c.args.others.now in
    let i = c.loop-i.i in (
      lists_differ xs ys i c.index-nodes-i.result c.index-others-i.result (omega (arith, c.if-nodes-others.false)) (omega arith) c.index-nodes-i.is c.index-others-i.is c.pair.new.trail c.in_ok-paired.paired c.in_default.not-Alike c.in_ok-paired.ensures,
      more_pairs xs ys i c.index-nodes-i.result c.index-others-i.result (omega (arith, c.if-nodes-others.false)) (omega arith) c.index-nodes-i.is c.index-others-i.is c.pair.new.trail c.in_ok-paired.paired c.in_default.not-Alike c.in_ok-paired.ensures
          (λ same. let yes = c.if-all_alike.ensures.1 (ap (map plain) (rest_is xs i) ∙ (same ∙ ap (map plain) (sym (rest_is ys i)))) in cc) c.clear.new.self c.clear.ensures,
    )
