-- The reports of a tree: errors and warnings, with their places.
use Rattle.std.specs.Prelude.{ℕ, Bool, true, false, List, [], ◌∷◌, map, Option, Some, None}
use Rattle.std.specs.declared.ops.Range.{Range}
use Rattle.std.specs.List.{flat_map}
use Rattle.typst_base.specs.Span.{SpanParts, detached}
use Rattle.typst_base.specs.DiagSpan.{DiagPlace, of_span}
use Rattle.typst_node.specs.Tree.{HintText, WarningText, Content, AsLeaf, AsError, AsInner, Label, Tree}
use Rattle.typst_node.specs.Preorder.{nodes}

-- a hint of a report: its text, and the place that it is about
pub record PlacedHint : Type 0 where
  pub text : List ℕ
  pub place : DiagPlace

-- the report of a node: whether it is an error or a warning, the place that it is about, its message and its hints
pub record Report : Type 0 where
  pub is_error : Bool
  pub place : DiagPlace
  pub message : List ℕ
  pub hints : List PlacedHint

-- a hint is about no place, or about a part of the node
abbrev pub hint_place : SpanParts → Option (Range ℕ) → DiagPlace
hint_place span None = of_span detached None
hint_place span (Some part) = of_span span (Some part)

-- the hint of a report, for a hint of a node with this span
abbrev pub placed : SpanParts → HintText → PlacedHint
placed span h = record { text = h.text; place = hint_place span h.sub_range }

-- the report of a warning of a node with this span
abbrev pub warning_report : SpanParts → WarningText → Report
warning_report span w = record {
  is_error = false;
  place = of_span span w.sub_range;
  message = w.message;
  hints = map (placed span) w.hints;
}

-- the report of an error with this span
abbrev pub error_report : SpanParts → List ℕ → List HintText → Report
error_report span message hints = record {
  is_error = true;
  place = of_span span None;
  message = message;
  hints = map (placed span) hints;
}

-- the report of a content with this span, if it is that of an error
abbrev pub error_reports : SpanParts → Content → List Report
error_reports span (AsLeaf kind text) = []
error_reports span (AsError text message hints) = error_report span message hints ∷ []
error_reports span (AsInner kind bound) = []

-- a node's error, if it is one
abbrev pub errors_at : Label → List Report
errors_at l = error_reports l.span l.content

-- a node's warnings, outermost first
abbrev pub warnings_at : Label → List Report
warnings_at l = map (warning_report l.span) l.warnings

-- the reports of the errors of a tree's nodes, in preorder
abbrev pub errors_of : Tree → List Report
errors_of t = flat_map errors_at (nodes t)

-- the reports of the warnings of a tree's nodes, in preorder
abbrev pub warnings_of : Tree → List Report
warnings_of t = flat_map warnings_at (nodes t)
