use Rattle.std.proofs.Common.{◌≡◌, ◌+◌, ◌-◌, ap, sym, ◌∙◌, subst, arith, below_more}
use Rattle.typst_node.specs.Room.{HasRoom}
use Rattle.typst_node.specs.FirstWindow.{HoldsAll}
use Rattle.typst_node.specs.Window.{width}
use Rattle.typst_node.specs.Sites.{recorded}
use Rattle.typst_node.proofs.Opens.{width_next, fewer_in}
use Rattle.typst_node.proofs.node.window.find.Goals as goal

pub loop-numbering-preserved : goal.loop-numbering-preserved
loop-numbering-preserved c =
    let s = recorded c.args.site.now in
    let t = c.loop-numbering.tried in
    let i = c.loop-numbering.invariant in
    let none : ¬ (HasRoom s c.loop-numbering.width) = c.in_default.ensures in
    let some : ¬ (HoldsAll s c.loop-numbering.width) = λ h. let e = c.holds_all.ensures.1 h in cc in
    let same : t + 1 - 1 ≡ t = omega arith in
    let next = width_next t c.loop-numbering.width c.wider-next.result i.positive i.wide c.wider-next.ensures.first c.wider-next.ensures.later in
    record {
      positive = omega arith;
      few = omega arith;
      wide = next ∙ sym (ap width same);
      nodes = ap (λ n. n + c.count_gained-nodes.result) i.nodes ∙ c.count_gained-nodes.ensures;
      least = λ j h. below_more (λ k. ¬ (HasRoom s (width k))) (t - 1) i.least (subst (λ k. ¬ (HasRoom s k)) i.wide none) j (omega (arith, h, i.positive));
      among = λ j h. below_more (λ k. ¬ (HoldsAll s (width k))) (t - 1) i.among (subst (λ k. ¬ (HoldsAll s k)) i.wide some) j (omega (arith, h, i.positive));
    }

pub overflow_add-nodes : goal.overflow_add-nodes
overflow_add-nodes c = omega (arith, c.loop-numbering.invariant.nodes, c.count_gained-nodes.ensures, fewer_in (recorded c.args.site.now) c.wider-next.result, c.requires.total)
