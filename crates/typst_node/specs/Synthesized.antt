-- Trees with one span at all nodes.
use Rattle.std.specs.Prelude.{ℕ, map, None}
use Rattle.typst_base.specs.Span.{SpanParts}
use Rattle.typst_node.specs.Tree.{HintText, WarningText, Content, AsLeaf, AsError, AsInner, Label, Forest, none, tree, Tree}

-- a hint about the whole node
abbrev pub whole_hint : HintText → HintText
whole_hint h = record { text = h.text; sub_range = None }

-- a warning about the whole node, with hints about the whole node
abbrev pub whole_warning : WarningText → WarningText
whole_warning w = record { sub_range = None; message = w.message; hints = map whole_hint w.hints }

-- the content with an error's hints about the whole node, and with this number as an inner node's bound
abbrev pub synthesized_content : ℕ → Content → Content
synthesized_content n (AsLeaf kind text) = AsLeaf kind text
synthesized_content n (AsError text message hints) = AsError text message (map whole_hint hints)
synthesized_content n (AsInner kind bound) = AsInner kind n

-- the label with this span, without sub-ranges, and with the span's number as an inner node's bound
abbrev pub synthesized_label : SpanParts → Label → Label
synthesized_label span l = record {
  span = span;
  warnings = map whole_warning l.warnings;
  content = synthesized_content span.low l.content;
}

-- the same trees with such a label at every node
abbrev pub synthesized_forest : SpanParts → Forest → Forest
synthesized_forest span none = none
synthesized_forest span (tree l c r) = tree (synthesized_label span l) (synthesized_forest span c) (synthesized_forest span r)

-- the tree with this span at every node, without sub-ranges, and with the span's number as every inner node's bound
abbrev pub synthesized : SpanParts → Tree → Tree
synthesized span t = record {
  label = synthesized_label span t.label;
  children = synthesized_forest span t.children;
}
