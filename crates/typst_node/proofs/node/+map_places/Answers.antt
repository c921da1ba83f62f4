use Rattle.std.proofs.Common.{◌≡◌, ◌+◌, map, length, get_or, refl, ap, sym, ◌∙◌, arith, rules}
use Rattle.std.proofs.Math.ListN.{set}
use Rattle.std.proofs.Math.Seq.{map-set_same}
use Rattle.typst_base.specs.Mapping.{mapped}
use Rattle.typst_base.specs.Span.{ranged}
use Rattle.typst_base.specs.SubRange.{interval}
use Rattle.std.proofs.lemmas.List.{with_items_is, drop-set-lt}
use Rattle.typst_node.specs.Count.{count_of_all}
use Rattle.typst_node.specs.Text.{text, text_of_all}
use Rattle.typst_node.specs.Mapped.{mapped_warning}
use Rattle.typst_node.specs.MappedForest.{mapped_trees}
use Rattle.typst_node.specs.View.{shown_warnings}
use Rattle.typst_node.proofs.MappedLemmas.{so_far, mapped_next, mapped_all, bare_of_mapped, length_from, mapped_inner}
use Rattle.typst_node.proofs.Relabelled.{relabelled, measured_by_relabelled, same_count, same_text}
use Rattle.typst_node.proofs.SynthesizedLemmas.{bare, bare_keeps}
use Rattle.typst_node.proofs.Trees.{count_at}
use Rattle.typst_node.proofs.node.+map_places.Goals as goal

pub InnerNode::map_places_below-map_places-requires : goal.InnerNode::map_places_below-map_places-requires
InnerNode::map_places_below-map_places-requires t c =
    let items : count_of_all c.loop-child.child-items ≡ count_of_all c.args.self.now.children.items = same_count bare bare_keeps c.loop-child.child-items c.deref_mut-child-items.result.now c.loop-child.invariant.same ∙ ap count_of_all c.deref_mut-child-items.ensures.value in
    let all : length (text_of_all c.deref_mut-child-items.result.now) ≡ length (text_of_all c.args.self.now.children.items) = ap (λ ts. length (text_of_all ts)) c.deref_mut-child-items.ensures.value in
    let here = length_from c.loop-child.child-items c.loop-child.child-index c.child-item.result (omega arith) in
    (omega (arith, c.decreases, count_at c.loop-child.child-items c.loop-child.child-index c.child-item.result (omega arith)), omega (arith, all, here, c.loop-child.invariant.left, c.requires.inside))

pub InnerNode::map_places_below-loop-child-preserved : goal.InnerNode::map_places_below-loop-child-preserved
InnerNode::map_places_below-loop-child-preserved t c =
    let here = length_from c.loop-child.child-items c.loop-child.child-index c.child-item.result (omega arith) in
    let size : c.len.result ≡ length (text (get_or c.loop-child.child-items c.loop-child.child-index c.child-item.result)) = c.len.ensures in
    record {
      done =
          ap (λ n. so_far c.args.mapper.now c.args.id (c.loop-child.at + n) (c.loop-child.child-index + 1) (set c.loop-child.child-items c.loop-child.child-index c.map_places.new.self)) size
          ∙ mapped_next c.args.mapper.now c.args.id c.loop-child.at c.loop-child.child-items c.loop-child.child-index c.map_places.new.self c.child-item.result (omega arith) c.map_places.ensures
          ∙ c.loop-child.invariant.done;
      same =
          map-set_same (relabelled bare) c.loop-child.child-items c.loop-child.child-index c.map_places.new.self c.child-item.result
          (ap (relabelled bare) c.map_places.ensures ∙ bare_of_mapped c.args.mapper.now c.args.id c.loop-child.at (get_or c.loop-child.child-items c.loop-child.child-index c.child-item.result))
          ∙ c.loop-child.invariant.same;
      left =
          rw (size, drop-set-lt (c.loop-child.child-index + 1) c.loop-child.child-items c.loop-child.child-index c.map_places.new.self (omega arith))
          (omega (arith, here, c.loop-child.invariant.left));
    }

pub InnerNode::map_places_below-returns-clause-measured : goal.InnerNode::map_places_below-returns-clause-measured
InnerNode::map_places_below-returns-clause-measured t c =
    measured_by_relabelled bare bare_keeps c.loop-child.child-items c.args.self.now.children.items (c.loop-child.invariant.same ∙ ap (map (relabelled bare)) c.deref_mut-child-items.ensures.value)
    c.args.self.now _ refl (with_items_is c.args.self.now.children c.loop-child.child-items (omega arith)) refl c.map_parts.ensures.diagnosis c.map_parts.ensures.ends c.requires.measured

pub InnerNode::map_places_below-returns-clause-len : goal.InnerNode::map_places_below-returns-clause-len
InnerNode::map_places_below-returns-clause-len t c =
    ap (λ ts. length (text_of_all ts)) (with_items_is c.args.self.now.children c.loop-child.child-items (omega arith))
    ∙ ap length (same_text bare bare_keeps c.loop-child.child-items c.args.self.now.children.items (c.loop-child.invariant.same ∙ ap (map (relabelled bare)) c.deref_mut-child-items.ensures.value))

pub InnerNode::map_places_below-returns-clause-children : goal.InnerNode::map_places_below-returns-clause-children
InnerNode::map_places_below-returns-clause-children t c =
    with_items_is c.args.self.now.children c.loop-child.child-items (omega arith)
    ∙ sym (mapped_all c.args.mapper.now c.args.id c.loop-child.at c.loop-child.child-items c.loop-child.child-index (omega arith)) ∙ c.loop-child.invariant.done
    ∙ ap (mapped_trees c.args.mapper.now c.args.id c.args.at) c.deref_mut-child-items.ensures.value

pub SyntaxNode::map_places-returns-in-Inner : goal.SyntaxNode::map_places-returns-in-Inner
SyntaxNode::map_places-returns-in-Inner t c =
    let size : c.len.result ≡ length (text c.args.self.now) = c.len.ensures in
    let upper : c.map_places_below.new.self.upper ≡ c.from_range-span.result.low = search rules in
    mapped_inner c.args.mapper.now c.args.id c.args.at c.from_range-span.result c.self.inside _ _ c.in-Inner.inner c.args.self.now c.map_places_below.new.self _ c.in-Inner.is c.self.view_is
    (c.from_range-span.ensures.is ∙ ap (λ r. ranged c.args.id r.start r.end) (c.map.ensures ∙ ap (λ n. mapped c.args.mapper.now (interval c.args.at (c.args.at + n))) size))
    upper
    (c.map_places_below.ensures.warnings
    ∙ (ap (λ x. map (mapped_warning c.args.mapper.now (interval c.args.at (c.args.at + length (text_of_all x.children.items)))) (shown_warnings x.extras.warnings)) c.deref_mut-in-Inner-2.ensures.value
    ∙ ap (λ x. map (mapped_warning c.args.mapper.now (interval c.args.at (c.args.at + length (text_of_all x.children.items)))) (shown_warnings x.extras.warnings)) c.deref_mut-in-Inner.ensures.value))
    (c.map_places_below.ensures.children
    ∙ (ap (λ x. mapped_trees c.args.mapper.now c.args.id c.args.at x.children.items) c.deref_mut-in-Inner-2.ensures.value
    ∙ ap (λ x. mapped_trees c.args.mapper.now c.args.id c.args.at x.children.items) c.deref_mut-in-Inner.ensures.value))
