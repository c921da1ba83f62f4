-- How the errors, warnings and hints of the tree that is held are told.
use Rattle.std.specs.Prelude.{ℕ, ◌≡◌, ◌<◌, ◌⊎◌, List, length, map, Option, None, Some, IsSomeAnd, Result, Ok, Err}
use Rattle.std.specs.declared.ops.Range.{Range as Interval}
use Rattle.typst_base.specs.DiagSpanKind.{diag_kind_of}
use Rattle.typst_base.specs.declared.diag_span.DiagSpanKind.{DiagSpanKind}
use Rattle.typst_base.specs.declared.diag_span.DiagSpanKind.TheVariants.{Detached, Number, Range}
use Rattle.typst_linked.specs.DiagPlaces.{place_in}
use Rattle.typst_node.specs.Tree.{Tree}
use Rattle.typst_session.specs.Remarks.{Remark, remarks, texts_of}
use Rattle.typst_session.specs.Sessions.{root_of}
use Rattle.typst_session.specs.Texts.{IsWritten}
use Rattle.typst_session.specs.declared.diagnostics.Diagnostic.{Diagnostic}
use Rattle.typst_session.specs.declared.diagnostics.DiagnosticSizes.{DiagnosticSizes}
use Rattle.typst_session.specs.declared.diagnostics.Severity.{Severity}
use Rattle.typst_session.specs.declared.diagnostics.Severity.TheVariants.{Error, Warning, Hint}
use Rattle.typst_session.specs.declared.session.Session.{Session}
use Rattle.typst_session.specs.declared.refusal.Refusal.{Refusal}
use Rattle.typst_session.specs.declared.refusal.Refusal.TheVariants.{Buffer, Memory, NoTree}

-- the number of a severity, which no status has
abbrev pub severity_number : Severity → ℕ
severity_number Error = 301
severity_number Warning = 302
severity_number Hint = 303

-- the number of the node that something is about, or 1 if there is none
abbrev pub node_number : DiagSpanKind → ℕ
node_number Detached = 1
node_number (Number id num part) = num.0
node_number (Range id range) = 1

-- where a range begins, or 0 if there is none
abbrev pub start_of : Option (Interval ℕ) → ℕ
start_of None = 0
start_of (Some range) = range.start

-- where a range ends, or 0 if there is none
abbrev pub end_of : Option (Interval ℕ) → ℕ
end_of None = 0
end_of (Some range) = range.end

-- how many ranges there are
abbrev pub count_of : Option (Interval ℕ) → ℕ
count_of None = 0
count_of (Some range) = 1

-- how a remark of a tree is told: by the number of the node that it is about, its bytes, the length of its text and its
-- severity
abbrev pub diagnostic_of : Tree → Remark → Diagnostic
diagnostic_of t remark = record {
  number = node_number (diag_kind_of remark.place);
  start = start_of (place_in (diag_kind_of remark.place) t);
  end = end_of (place_in (diag_kind_of remark.place) t);
  placed = count_of (place_in (diag_kind_of remark.place) t);
  len = length remark.text;
  severity = severity_number remark.severity;
}

-- how all remarks of a tree are told
abbrev pub diagnostics_of : Tree → List Diagnostic
diagnostics_of t = map (diagnostic_of t) (remarks t)

-- what a call writes to: a buffer for diagnostics, one for their texts, and how long both lists are
pub record Buffers : Type 0 where
  pub list : List Diagnostic
  pub texts : List ℕ
  pub sizes : DiagnosticSizes

-- a tree's remarks are written, and so are their texts
pub record AreDiagnosed (old new : Buffers) (t : Tree) : Type 0 where
  pub list : IsWritten (diagnostics_of t) old.list new.list new.sizes.count
  pub texts : IsWritten (texts_of (remarks t)) old.texts new.texts new.sizes.len

-- a buffer is too short for a tree's remarks or for their texts; their number and the length of their texts are told,
-- and both buffers stay as they were
pub record LacksRoom (old new : Buffers) (t : Tree) : Type 0 where
  pub count : new.sizes.count ≡ length (diagnostics_of t)
  pub len : new.sizes.len ≡ length (texts_of (remarks t))
  pub short : (length old.list < new.sizes.count) ⊎ (length old.texts < new.sizes.len)
  pub same_list : new.list ≡ old.list
  pub same_texts : new.texts ≡ old.texts

-- the remarks of the tree that is held and their texts are written into two buffers, or why not
abbrev pub ReadsDiagnostics : Session → Buffers → Buffers → Result (Unit {0}) Refusal → Type 0
ReadsDiagnostics s old new (Ok done) = IsSomeAnd (root_of s.held) (AreDiagnosed old new)
ReadsDiagnostics s old new (Err Buffer) = IsSomeAnd (root_of s.held) (LacksRoom old new)
ReadsDiagnostics s old new (Err NoTree) = (root_of s.held ≡ None) × (new ≡ old)
ReadsDiagnostics s old new (Err Memory) = new ≡ old
ReadsDiagnostics s old new (Err _) = ⊥
