-- Trees before and after synthesis.
use Rattle.std.proofs.Common.{◌≡◌, ℕ, List, [], ◌∷◌, map, refl, sym, ap, ◌∙◌, Box, Global}
use Rattle.typst_base.specs.Span.{SpanParts, detached}
use Rattle.typst_base.specs.declared.kind.SyntaxKind.{SyntaxKind}
use Rattle.typst_node.specs.Tree.{HintText, WarningText, Content, AsLeaf, AsError, AsInner, Label, Forest, none, tree, Tree, forest}
use Rattle.typst_node.specs.Text.{content_text}
use Rattle.typst_node.specs.Diagnosis.{is_error_content, has_some}
use Rattle.typst_node.specs.Synthesized.{whole_hint, whole_warning, synthesized_content, synthesized_label, synthesized_forest, synthesized}
use Rattle.typst_node.specs.View.{tree_of, shown_warnings}
use Rattle.typst_node.specs.declared.node.InnerNode.{InnerNode}
use Rattle.typst_node.specs.declared.node.Node.TheVariants.{Inner}
use Rattle.typst_node.specs.declared.node.SyntaxNode.TheInside.{Inside}
use Rattle.typst_node.proofs.Relabelled.{relabelled, relabelled_forest, KeepsMeasures}

-- a label without what synthesis changes
abbrev pub bare : Label → Label
bare l = synthesized_label detached l

text_kept : (n : ℕ) (c : Content) → content_text (synthesized_content n c) ≡ content_text c
text_kept n (AsLeaf kind text) = refl
text_kept n (AsError text message hints) = refl
text_kept n (AsInner kind bound) = refl

error_kept : (n : ℕ) (c : Content) → is_error_content (synthesized_content n c) ≡ is_error_content c
error_kept n (AsLeaf kind text) = refl
error_kept n (AsError text message hints) = refl
error_kept n (AsInner kind bound) = refl

warned_kept : (ws : List WarningText) → has_some (map whole_warning ws) ≡ has_some ws
warned_kept [] = refl
warned_kept (w ∷ ws) = refl

pub bare_keeps : KeepsMeasures bare
bare_keeps = record {
  texts = λ l. text_kept 1 l.content;
  errors = λ l. error_kept 1 l.content;
  warned = λ l. warned_kept l.warnings;
}

whole_hints_twice : (hs : List HintText) → map whole_hint (map whole_hint hs) ≡ map whole_hint hs
whole_hints_twice [] = refl
whole_hints_twice (h ∷ hs) = ap (λ ks. whole_hint h ∷ ks) (whole_hints_twice hs)

whole_warnings_twice : (ws : List WarningText) → map whole_warning (map whole_warning ws) ≡ map whole_warning ws
whole_warnings_twice [] = refl
whole_warnings_twice (w ∷ ws) = λ i. record { sub_range = (whole_warning w).sub_range; message = w.message; hints = whole_hints_twice w.hints i } ∷ whole_warnings_twice ws i

content_twice : (n m : ℕ) (c : Content) → synthesized_content n (synthesized_content m c) ≡ synthesized_content n c
content_twice n m (AsLeaf kind text) = refl
content_twice n m (AsError text message hints) = ap (λ hs. AsError text message hs) (whole_hints_twice hints)
content_twice n m (AsInner kind bound) = refl

bare_of_label : (span : SpanParts) (l : Label) → bare (synthesized_label span l) ≡ bare l
bare_of_label span l = λ i. record { span = detached; warnings = whole_warnings_twice l.warnings i; content = content_twice 1 span.low l.content i }

bare_of_forest : (span : SpanParts) (f : Forest) → relabelled_forest bare (synthesized_forest span f) ≡ relabelled_forest bare f
bare_of_forest span none = refl
bare_of_forest span (tree l c r) = λ i. tree (bare_of_label span l i) (bare_of_forest span c i) (bare_of_forest span r i)

-- synthesis changes nothing else
pub bare_of : (span : SpanParts) (t : Tree) → relabelled bare (synthesized span t) ≡ relabelled bare t
bare_of span t = λ i. record { label = bare_of_label span t.label i; children = bare_of_forest span t.children i }

pub forest_synthesized : (span : SpanParts) (ts : List Tree) → forest (map (synthesized span) ts) ≡ synthesized_forest span (forest ts)
forest_synthesized span [] = refl
forest_synthesized span (t ∷ ts) = ap (λ f. tree (synthesized_label span t.label) (synthesized_forest span t.children) f) (forest_synthesized span ts)

-- an inner node, after its children are synthesized
pub synthesized_inner : (span : SpanParts) (a : Inside) (k : SyntaxKind) (n : ℕ) (b : Box InnerNode Global) (t : Tree) (new : InnerNode) (ws : List WarningText) → a.node ≡ Inner k n b → tree_of a ≡ t
    → new.upper ≡ span.low → ws ≡ map whole_warning (shown_warnings b.value.extras.warnings) → new.children.items ≡ map (synthesized span) b.value.children.items
    → record { label = record { span = span; warnings = ws; content = AsInner k new.upper }; children = forest new.children.items } ≡ synthesized span t
synthesized_inner span a k n b t new ws is view upper warned below =
    (λ i. record { label = record { span = span; warnings = warned i; content = AsInner k (upper i) }; children = (ap forest below ∙ forest_synthesized span b.value.children.items) i })
    ∙ sym (ap (λ n. synthesized span (tree_of record { node = n; span = a.span })) is) ∙ ap (synthesized span) view
