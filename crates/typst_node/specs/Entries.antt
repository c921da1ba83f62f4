-- The two lists of diagnostics of a tree, over the list of all its paths, and the report for an entry.
use Rattle.std.specs.Prelude.{ℕ, Bool, true, false, List, [], ◌∷◌, map, Option, Some, None}
use Rattle.std.specs.declared.ops.Range.{Range}
use Rattle.std.specs.List.{flat_map}
use Rattle.typst_base.specs.Span.{SpanParts, detached}
use Rattle.typst_base.specs.DiagSpan.{of_span}
use Rattle.typst_node.specs.Tree.{HintText, WarningText, Content, AsLeaf, AsError, AsInner, Tree}
use Rattle.typst_node.specs.Preorder.{paths, at}
use Rattle.typst_node.specs.Diagnostics.{Report, placed}

-- an entry: the path of its node, whether it is an error or a warning, its sub-range, its message and its hints
pub record Entry : Type 0 where
  pub path : List ℕ
  pub is_error : Bool
  pub sub_range : Option (Range ℕ)
  pub message : List ℕ
  pub hints : List HintText

-- the entry for a warning of the node at a path
abbrev pub warning_entry : List ℕ → WarningText → Entry
warning_entry path w = record { path = path; is_error = false; sub_range = w.sub_range; message = w.message; hints = w.hints }

-- the entry for a content at a path, if it is an error
abbrev pub content_entries : List ℕ → Content → List Entry
content_entries path (AsLeaf kind text) = []
content_entries path (AsError text message hints) = record { path = path; is_error = true; sub_range = None; message = message; hints = hints } ∷ []
content_entries path (AsInner kind bound) = []

-- the entry for the node at a path, if it is an error
abbrev pub error_there : List ℕ → Option Tree → List Entry
error_there path None = []
error_there path (Some t) = content_entries path t.label.content

-- the entries for the warnings of the node at a path, outermost first
abbrev pub warnings_there : List ℕ → Option Tree → List Entry
warnings_there path None = []
warnings_there path (Some t) = map (warning_entry path) t.label.warnings

-- the errors of a tree: those at its paths, in preorder
abbrev pub error_entries : Tree → List Entry
error_entries t = flat_map (λ path. error_there path (at path t)) (paths t)

-- the warnings of a tree: those at its paths, in preorder
abbrev pub warning_entries : Tree → List Entry
warning_entries t = flat_map (λ path. warnings_there path (at path t)) (paths t)

-- the span of a node; a detached one if there is no node
abbrev pub span_there : Option Tree → SpanParts
span_there None = detached
span_there (Some t) = t.label.span

-- the report for an entry: its place is the span of the entry's node, with the entry's sub-range
abbrev pub told : Tree → Entry → Report
told t e = record {
  is_error = e.is_error;
  place = of_span (span_there (at e.path t)) e.sub_range;
  message = e.message;
  hints = map (placed (span_there (at e.path t))) e.hints;
}
