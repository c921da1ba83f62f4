use Rattle.std.proofs.Common.{◌≡◌, arith, ap, sym, ◌∙◌, rules, map}
use Rattle.typst_node.specs.Plain.{plain}
use Rattle.typst_node.specs.Count.{count}
use Rattle.typst_node.proofs.SameApart.{same_length, same_at, same_more, alike_whole, alike_warnings, alike_content, alike_below}
use Rattle.typst_node.specs.View.{warning_text, warnings_in, tree_of}
use Rattle.typst_node.proofs.Trees.{count_at}
use Rattle.typst_node.proofs.node.+alike.Goals as goal

pub spanless::all_alike-returns-then-nodes-others : goal.spanless::all_alike-returns-then-nodes-others
spanless::all_alike-returns-then-nodes-others t c = (λ h. cc, λ e. absurd (c.if-nodes-others.true (same_length plain c.args.nodes.now c.args.others.now e)))

pub spanless::all_alike-returns-then-not-spanless_eq : goal.spanless::all_alike-returns-then-not-spanless_eq
spanless::all_alike-returns-then-not-spanless_eq t c = (
  λ h. cc,
  λ e. c.if-not-spanless_eq.ensures.1 (ap plain c.index-nodes-i.is ∙ (same_at plain c.args.nodes.now c.args.others.now c.loop-i.i c.index-nodes-i.result c.index-others-i.result (omega arith) (omega (arith, c.if-nodes-others.false)) e ∙ sym (ap plain c.index-others-i.is))),
)

pub spanless::all_alike-loop-i-preserved : goal.spanless::all_alike-loop-i-preserved
spanless::all_alike-loop-i-preserved t c =
    same_more plain c.args.nodes.now c.args.others.now c.loop-i.i c.index-nodes-i.result c.index-others-i.result (omega arith) (omega (arith, c.if-nodes-others.false)) c.loop-i.invariant
    c.index-nodes-i.is c.index-others-i.is (c.if-not-spanless_eq.ensures.0 (search rules))

pub spanless::all_alike-spanless_eq-requires : goal.spanless::all_alike-spanless_eq-requires
spanless::all_alike-spanless_eq-requires t c =
    (omega (arith, c.decreases, count_at c.args.nodes.now c.loop-i.i c.index-nodes-i.result (omega arith), ap count c.index-nodes-i.is), tt)

pub SyntaxNode::spanless_eq_boxed-returns-then-same_warnings : goal.SyntaxNode::spanless_eq_boxed-returns-then-same_warnings
SyntaxNode::spanless_eq_boxed-returns-then-same_warnings t c = (
  λ h.
      let both = c.spanless_eq.ensures.0 h in
      let warned : map warning_text (warnings_in c.self.inside.node) ≡ map warning_text (warnings_in c.other.inside.node) = ap (map warning_text) (sym c.warnings.ensures) ∙ (c.same_warnings.ensures.0 (search rules) ∙ ap (map warning_text) c.warnings-2.ensures) in
      sym (ap plain c.self.view_is) ∙ (alike_whole c.self.inside c.other.inside warned both.0 both.1 ∙ ap plain c.other.view_is),
  λ e.
      let same : plain (tree_of c.self.inside) ≡ plain (tree_of c.other.inside) = ap plain c.self.view_is ∙ (e ∙ sym (ap plain c.other.view_is)) in
      c.spanless_eq.ensures.1 (alike_content c.self.inside c.other.inside same, alike_below c.self.inside c.other.inside same),
)

pub SyntaxNode::spanless_eq_boxed-returns-else-same_warnings : goal.SyntaxNode::spanless_eq_boxed-returns-else-same_warnings
SyntaxNode::spanless_eq_boxed-returns-else-same_warnings t c = (
  λ h. cc,
  λ e.
      let same : plain (tree_of c.self.inside) ≡ plain (tree_of c.other.inside) = ap plain c.self.view_is ∙ (e ∙ sym (ap plain c.other.view_is)) in
      c.same_warnings.ensures.1 (ap (map warning_text) c.warnings.ensures ∙ (alike_warnings c.self.inside c.other.inside same ∙ sym (ap (map warning_text) c.warnings-2.ensures))),
)
