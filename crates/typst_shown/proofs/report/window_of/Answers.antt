use Rattle.std.proofs.Common.{◌≡◌, ap, sym, subst, ◌∙◌, drop, take, List, ℕ, arith}
use Rattle.typst_node.specs.Count.{count_of_all}
use Rattle.typst_node.specs.Paths.{IsPath, trees_at}
use Rattle.typst_node.specs.declared.node.reconcile.Touched.TheVariants.{Window}
use Rattle.typst_shown.specs.Report.{in_window}
use Rattle.typst_shown.proofs.Counts.{count_inside}
use Rattle.typst_shown.proofs.Windows.{no_window, none_off}
use Rattle.typst_shown.proofs.report.window_of.Goals as goal

pub returns-clause-fits : goal.returns-clause-fits
returns-clause-fits c =
    let part = c.first_nodes.ensures
    ∙ ap (take c.saturating_sub.result) (c.nodes_from-rest.ensures ∙ ap (drop c.in-Window.renumbered.window.start) c.child_slice.ensures.children) in
    omega (arith, ap count_of_all part, count_inside c.in-Some.node.now c.in-Window.renumbered.window.start c.saturating_sub.result, c.descendants-all.ensures, c.descendants-all.type_inv)

pub returns-in_default-node_at-clause-window : goal.returns-in_default-node_at-clause-window
returns-in_default-node_at-clause-window c =
    let path = c.args.done.now.path.items in
    let root = c.args.root.now in
    let off : ¬ (IsPath path root) = λ there.
    let some = rw c.in_default-node_at.is at (c.node_at.ensures.some.1 (subst (λ (p : List ℕ). IsPath p root) (sym c.deref.ensures.value) there)) in cc in
    sym (
    ap (λ t. in_window t (trees_at path root)) c.in-Window.is
    ∙ (ap (in_window (Window c.in-Window.renumbered)) (none_off path root off) ∙ no_window c.in-Window.renumbered)
    )
