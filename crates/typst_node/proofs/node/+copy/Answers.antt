use Rattle.std.proofs.Common.{◌≡◌, suc, ap, sym, subst, arith}
use Rattle.typst_node.specs.Count.{count, count_of_all}
use Rattle.typst_node.specs.View.{IsConsistent, IsMeasured, below}
use Rattle.typst_node.specs.declared.node.InnerNode.{InnerNode}
use Rattle.typst_node.specs.declared.node.Node.{Node}
use Rattle.typst_node.proofs.Trees.{count_at}
use Rattle.typst_node.proofs.node.+copy.Goals as goal

pub copy::push_copies-copy-requires : goal.copy::push_copies-copy-requires
copy::push_copies-copy-requires t c =
    let listed = count_at c.args.nodes.now c.loop-node.node-index c.node-item.result (omega arith) in
    let whole : suc (count_of_all (below c.node.inside.node)) ≡ count c.node-item.result = ap count c.node.view_is in
    let boxed : count_of_all (below c.node.inside.node) ≡ count_of_all c.in-Inner.inner.value.children.items = ap (λ (n : Node). count_of_all (below n)) c.in-Inner.is in
    let lent : count_of_all c.deref.result.now.children.items ≡ count_of_all c.in-Inner.inner.value.children.items = ap (λ (i : InnerNode). count_of_all i.children.items) c.deref.ensures in
    let kept = subst IsConsistent c.in-Inner.is c.node.invariant in
    (omega (arith, c.decreases, listed, ap count c.node-item.is, whole, boxed, lent), subst IsMeasured (sym c.deref.ensures) kept.1.1)

pub copy::push_copies-push_copy-requires : goal.copy::push_copies-push_copy-requires
copy::push_copies-push_copy-requires t c =
    (omega (arith, c.decreases, count_at c.args.nodes.now c.loop-node.node-index c.node-item.result (omega arith), ap count c.node-item.is), tt)
