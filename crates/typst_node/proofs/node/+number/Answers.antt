use Rattle.std.proofs.Common.{arith, ◌≡◌, ◌+◌, ◌-◌, ◌*◌, ◌/◌, ◌<◌, ◌≤◌, length, map, ap, sym, ◌∙◌, refl, get_or}
use Rattle.std.proofs.lemmas.List.{with_items_is}
use Rattle.typst_node.specs.Count.{count, count_of_all}
use Rattle.typst_node.specs.Text.{text_of_all}
use Rattle.typst_node.specs.Tree.{forest}
use Rattle.typst_node.specs.Labels.{number}
use Rattle.typst_node.specs.Plain.{plain}
use Rattle.typst_node.proofs.Plain.{same_count_of_all, same_text_of_all, measured_by_plain, same_plain_inner, inner_count}
use Rattle.typst_node.proofs.Ordered.{IsIn, all_in, all_weaker}
use Rattle.typst_node.proofs.Within.{within_le, within_wider, within_append}
use Rattle.typst_node.proofs.Trees.{count_drop, count_at}
use Rattle.std.proofs.Math.Seq.{map-set_same}
use Rattle.std.proofs.lemmas.List.{take_more_set, drop-set-lt}
use Rattle.std.proofs.Math.Nat.{mul-le-mul_left}
use Rattle.typst_node.proofs.node.+number.Goals as goal

pub InnerNode::number_below-number_all-requires : goal.InnerNode::number_below-number_all-requires
InnerNode::number_below-number_all-requires t c =
    let same : count_of_all c.deref_mut.result.now ≡ count_of_all c.args.self.now.children.items = ap count_of_all c.deref_mut.ensures.value in
    let room = rw c.requires.measured.descendants at c.requires.room in
    (rw same (omega (arith, c.decreases)), (omega arith, (omega arith, rw same (omega arith))))

pub InnerNode::number_below-returns-clause-measured : goal.InnerNode::number_below-returns-clause-measured
InnerNode::number_below-returns-clause-measured t c =
    measured_by_plain c.number_all.new.nodes c.args.self.now.children.items (c.number_all.ensures.plain ∙ ap (map plain) c.deref_mut.ensures.value)
    c.args.self.now _ refl (with_items_is c.args.self.now.children c.number_all.new.nodes (omega arith)) refl refl refl c.requires.measured

pub InnerNode::number_below-returns-clause-len : goal.InnerNode::number_below-returns-clause-len
InnerNode::number_below-returns-clause-len t c =
    ap (λ ts. length (text_of_all ts)) (with_items_is c.args.self.now.children c.number_all.new.nodes (omega arith))
    ∙ ap length (same_text_of_all c.number_all.new.nodes c.args.self.now.children.items (c.number_all.ensures.plain ∙ ap (map plain) c.deref_mut.ensures.value))

pub SyntaxNode::number_within-returns-in-Inner-clause-within : goal.SyntaxNode::number_within-returns-in-Inner-clause-within
SyntaxNode::number_within-returns-in-Inner-clause-within t c =
    let file : c.from_number-self-inside.result.file ≡ c.args.id = ap (λ s. s.file) c.from_number-self-inside.ensures.is in
    let low : c.from_number-self-inside.result.low ≡ c.args.start + c.stride_of-stride.result / 2 = ap (λ s. s.low) c.from_number-self-inside.ensures.is in
    let many : c.deref_mut.result.now.descendants ≡ c.deref.result.now.descendants = ap (λ x. x.descendants) c.deref_mut.ensures.value ∙ sym (ap (λ x. x.descendants) c.deref.ensures) in
    (file, omega arith, within_wider c.args.id _ _ _ _ _ c.number_below.ensures.within (omega arith) (rw many (omega arith)), omega arith)

pub SyntaxNode::number_within-returns-in-Inner-clause-plain : goal.SyntaxNode::number_within-returns-in-Inner-clause-plain
SyntaxNode::number_within-returns-in-Inner-clause-plain t c =
    same_plain_inner c.self.inside _ _ c.in-Inner.inner c.args.self.now c.number_below.new.self c.from_number-self-inside.result c.in-Inner.is c.self.view_is
    (c.number_below.ensures.warnings ∙ ap (λ x. x.extras.warnings) c.deref_mut.ensures.value)
    (c.number_below.ensures.plain ∙ ap (λ x. map plain x.children.items) c.deref_mut.ensures.value)

pub number::number_all-number_within-requires : goal.number::number_all-number_within-requires
number::number_all-number_within-requires t c =
    let node = get_or c.loop-i.nodes c.loop-i.i c.index-nodes-i.result in
    let in_range : c.loop-i.i < length c.loop-i.nodes = omega arith in
    let left = rw (count_drop c.loop-i.nodes c.loop-i.i c.index-nodes-i.result in_range) at c.loop-i.invariant.left in
    let same = same_count_of_all c.loop-i.nodes c.args.nodes.now c.loop-i.invariant.plain in
    let above = within_le _ _ _ _ c.loop-i.invariant.within in
    let size : c.descendants.result ≡ count node = c.descendants.ensures in
    let product : c.descendants.result * c.args.stride ≡ count node * c.args.stride = ap (λ n. n * c.args.stride) size in
    let one = mul-le-mul_left (count node) c.requires.positive in
    (omega (arith, c.decreases, count_at c.loop-i.nodes c.loop-i.i c.index-nodes-i.result in_range), (omega arith, (rw product (omega arith), rw product (omega arith))))

pub number::number_all-loop-i-preserved : goal.number::number_all-loop-i-preserved
number::number_all-loop-i-preserved t c =
    let in_range : c.loop-i.i < length c.loop-i.nodes = omega arith in
    let left = rw (count_drop c.loop-i.nodes c.loop-i.i c.index-nodes-i.result in_range) at c.loop-i.invariant.left in
    record {
      plain = map-set_same plain c.loop-i.nodes c.loop-i.i c.number_within.new.self c.index-nodes-i.result c.number_within.ensures.plain ∙ c.loop-i.invariant.plain;
      left =
          let size : c.descendants.result ≡ count (get_or c.loop-i.nodes c.loop-i.i c.index-nodes-i.result) = c.descendants.ensures in
          rw (size, drop-set-lt (c.loop-i.i + 1) c.loop-i.nodes c.loop-i.i c.number_within.new.self (omega arith)) (omega arith);
      within = rw (take_more_set c.loop-i.nodes c.loop-i.i c.number_within.new.self in_range) (within_append _ _ _ _ _ _ c.loop-i.invariant.within c.number_within.ensures.within);
    }

pub SyntaxNode::number_within-returns-in-Inner-clause-half : goal.SyntaxNode::number_within-returns-in-Inner-clause-half
SyntaxNode::number_within-returns-in-Inner-clause-half t c inner room =
    let low : c.from_number-self-inside.result.low ≡ c.args.start + c.stride_of-stride.result / 2 = ap (λ s. s.low) c.from_number-self-inside.ensures.is in
    let many : c.deref_mut.result.now.descendants ≡ c.deref.result.now.descendants = ap (λ x. x.descendants) c.deref_mut.ensures.value ∙ sym (ap (λ x. x.descendants) c.deref.ensures) in
    let all : c.deref.result.now.descendants ≡ count c.args.self.now = ap (λ x. x.descendants) c.deref.ensures ∙ inner_count c.self.inside _ _ c.in-Inner.inner c.args.self.now c.in-Inner.is c.self.invariant c.self.view_is in
    let half = c.stride_of-stride.ensures.half (rw all room) in
    let end = c.args.start + c.stride_of-stride.result * c.deref_mut.result.now.descendants in
    let ends : end ≤ c.args.start + (c.args.end - c.args.start) / 2 = rw many (omega arith) in
    let some : 1 ≤ c.deref_mut.result.now.descendants = rw (many, all) (omega arith) in
    let one = mul-le-mul_left c.stride_of-stride.result some in (
      (omega arith, omega arith),
      all_weaker (IsIn c.args.id (c.args.start + c.stride_of-stride.result) end) (λ l. (c.args.start ≤ number l) × (number l < c.args.start + (c.args.end - c.args.start) / 2)) (λ l e. (omega (arith, e.1), omega (arith, e.2))) _
          (all_in c.args.id _ _ (forest c.number_below.new.self.children.items) c.number_below.ensures.within),
    )
