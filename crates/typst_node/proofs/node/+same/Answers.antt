use Rattle.std.proofs.Common.{◌≡◌, Bool, true, false, not, refl, arith, ap, sym, ◌∙◌, rules, map, length}
use Rattle.typst_base.specs.Equal.{span_eq, span_same}
use Rattle.typst_node.specs.Tree.{Tree}
use Rattle.typst_node.specs.Count.{count}
use Rattle.typst_node.specs.View.{warning_text, warnings_in, tree_of}
use Rattle.typst_node.proofs.Same.{whole_same, same_warning_texts, same_below, equal_more, equal_at}
use Rattle.typst_node.proofs.Trees.{count_at}
use Rattle.typst_node.proofs.node.+same.Goals as goal

not_false : (b : Bool) → not b ≡ false → b ≡ true
not_false true e = refl
not_false false e = cc

pub equal::all_same-returns-then-nodes-others : goal.equal::all_same-returns-then-nodes-others
equal::all_same-returns-then-nodes-others t c = (λ h. cc, λ e. absurd (c.if-nodes-others.true (ap length e)))

pub equal::all_same-returns-then-not-same : goal.equal::all_same-returns-then-not-same
equal::all_same-returns-then-not-same t c = (
  λ h. cc,
  λ e. c.if-not-same.ensures.1 (c.index-nodes-i.is ∙ (equal_at c.args.nodes.now c.args.others.now c.loop-i.i c.index-nodes-i.result c.index-others-i.result (omega arith) e ∙ sym c.index-others-i.is)),
)

pub equal::all_same-loop-i-preserved : goal.equal::all_same-loop-i-preserved
equal::all_same-loop-i-preserved t c =
    equal_more c.args.nodes.now c.args.others.now c.loop-i.i c.index-nodes-i.result c.index-others-i.result (omega arith) (omega (arith, c.if-nodes-others.false)) c.loop-i.invariant
    c.index-nodes-i.is c.index-others-i.is (c.if-not-same.ensures.0 (search rules))

pub equal::all_same-same-requires : goal.equal::all_same-same-requires
equal::all_same-same-requires t c =
    (omega (arith, c.decreases, count_at c.args.nodes.now c.loop-i.i c.index-nodes-i.result (omega arith), ap count c.index-nodes-i.is), tt)

pub SyntaxNode::same-returns-then-same_warnings : goal.SyntaxNode::same-returns-then-same_warnings
SyntaxNode::same-returns-then-same_warnings t c = (
  λ h.
      let both = c.same.ensures.0 h in
      let span : c.self.inside.span ≡ c.other.inside.span =
      (span_same c.self.inside.span c.other.inside.span).0 (not_false (span_eq c.self.inside.span c.other.inside.span) (sym c.ne.ensures ∙ c.if-ne.false)) in
      let warned : map warning_text (warnings_in c.self.inside.node) ≡ map warning_text (warnings_in c.other.inside.node) = ap (map warning_text) (sym c.warnings.ensures) ∙ (c.same_warnings.ensures.0 (search rules) ∙ ap (map warning_text) c.warnings-2.ensures) in
      sym c.self.view_is ∙ (whole_same c.self.inside c.other.inside span warned both.0 both.1 ∙ c.other.view_is),
  λ e.
      let same : tree_of c.self.inside ≡ tree_of c.other.inside = c.self.view_is ∙ (e ∙ sym c.other.view_is) in
      c.same.ensures.1 (ap (λ (t : Tree). t.label.content) same, same_below c.self.inside c.other.inside same),
)

pub SyntaxNode::same-returns-else-same_warnings : goal.SyntaxNode::same-returns-else-same_warnings
SyntaxNode::same-returns-else-same_warnings t c = (
  λ h. cc,
  λ e.
      let same : tree_of c.self.inside ≡ tree_of c.other.inside = c.self.view_is ∙ (e ∙ sym c.other.view_is) in
      c.same_warnings.ensures.1 (ap (map warning_text) c.warnings.ensures ∙ (same_warning_texts c.self.inside c.other.inside same ∙ sym (ap (map warning_text) c.warnings-2.ensures))),
)
