use Rattle.std.proofs.Common.{◌≡◌, length, map, get_or, refl, ap, sym, ◌∙◌, arith}
use Rattle.std.proofs.Math.Seq.{map-set_same}
use Rattle.std.proofs.lemmas.List.{with_items_is}
use Rattle.typst_node.specs.Count.{count_of_all}
use Rattle.typst_node.specs.Text.{text_of_all}
use Rattle.typst_node.specs.Synthesized.{synthesized, whole_warning}
use Rattle.typst_node.specs.View.{shown_warnings}
use Rattle.typst_node.proofs.Each.{each_next, each_all, map_same}
use Rattle.typst_node.proofs.Relabelled.{relabelled, measured_by_relabelled, same_count, same_text}
use Rattle.typst_node.proofs.SynthesizedLemmas.{bare, bare_keeps, bare_of, synthesized_inner}
use Rattle.typst_node.proofs.Trees.{count_at}
use Rattle.typst_node.proofs.node.+synthesize.Goals as goal

pub InnerNode::synthesize_below-synthesize-requires : goal.InnerNode::synthesize_below-synthesize-requires
InnerNode::synthesize_below-synthesize-requires t c =
    let items : count_of_all c.loop-child.child-items ≡ count_of_all c.args.self.now.children.items = same_count bare bare_keeps c.loop-child.child-items c.deref_mut-child-items.result.now c.loop-child.invariant.same ∙ ap count_of_all c.deref_mut-child-items.ensures.value in
    (omega (arith, c.decreases, count_at c.loop-child.child-items c.loop-child.child-index c.child-item.result (omega arith)), tt)

pub InnerNode::synthesize_below-loop-child-preserved : goal.InnerNode::synthesize_below-loop-child-preserved
InnerNode::synthesize_below-loop-child-preserved t c = record {
  done =
      each_next (λ u. u) (synthesized c.args.span) c.loop-child.child-items c.loop-child.child-index c.synthesize.new.self c.child-item.result (omega arith) c.synthesize.ensures
      ∙ c.loop-child.invariant.done;
  same =
      map-set_same (relabelled bare) c.loop-child.child-items c.loop-child.child-index c.synthesize.new.self c.child-item.result
      (ap (relabelled bare) c.synthesize.ensures ∙ bare_of c.args.span (get_or c.loop-child.child-items c.loop-child.child-index c.child-item.result))
      ∙ c.loop-child.invariant.same;
}

pub InnerNode::synthesize_below-returns-clause-measured : goal.InnerNode::synthesize_below-returns-clause-measured
InnerNode::synthesize_below-returns-clause-measured t c =
    measured_by_relabelled bare bare_keeps c.loop-child.child-items c.args.self.now.children.items (c.loop-child.invariant.same ∙ ap (map (relabelled bare)) c.deref_mut-child-items.ensures.value)
    c.args.self.now _ refl (with_items_is c.args.self.now.children c.loop-child.child-items (omega arith)) refl c.make_whole.ensures.diagnosis c.make_whole.ensures.ends c.requires

pub InnerNode::synthesize_below-returns-clause-len : goal.InnerNode::synthesize_below-returns-clause-len
InnerNode::synthesize_below-returns-clause-len t c =
    ap (λ ts. length (text_of_all ts)) (with_items_is c.args.self.now.children c.loop-child.child-items (omega arith))
    ∙ ap length (same_text bare bare_keeps c.loop-child.child-items c.args.self.now.children.items (c.loop-child.invariant.same ∙ ap (map (relabelled bare)) c.deref_mut-child-items.ensures.value))

pub InnerNode::synthesize_below-returns-clause-children : goal.InnerNode::synthesize_below-returns-clause-children
InnerNode::synthesize_below-returns-clause-children t c =
    with_items_is c.args.self.now.children c.loop-child.child-items (omega arith) ∙ sym (map_same c.loop-child.child-items)
    ∙ sym (each_all (λ u. u) (synthesized c.args.span) c.loop-child.child-items c.loop-child.child-index (omega arith)) ∙ c.loop-child.invariant.done
    ∙ ap (map (synthesized c.args.span)) c.deref_mut-child-items.ensures.value

pub SyntaxNode::synthesize-returns-in-Inner : goal.SyntaxNode::synthesize-returns-in-Inner
SyntaxNode::synthesize-returns-in-Inner t c =
    synthesized_inner c.args.span c.self.inside _ _ c.in-Inner.inner c.args.self.now c.synthesize_below.new.self _ c.in-Inner.is c.self.view_is
    c.synthesize_below.ensures.upper (c.synthesize_below.ensures.warnings ∙ ap (λ x. map whole_warning (shown_warnings x.extras.warnings)) c.deref_mut-in-Inner.ensures.value)
    (c.synthesize_below.ensures.children ∙ ap (λ x. map (synthesized c.args.span) x.children.items) c.deref_mut-in-Inner.ensures.value)
