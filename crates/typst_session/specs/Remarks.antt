-- The remarks of a tree: its errors and its warnings, each with its hints.
use Rattle.std.specs.Prelude.{ℕ, Bool, true, false, ◌∷◌, ◌++◌, List, map}
use Rattle.std.specs.List.{flat_map}
use Rattle.typst_base.specs.DiagSpan.{DiagPlace}
use Rattle.typst_node.specs.Tree.{Tree}
use Rattle.typst_node.specs.Diagnostics.{PlacedHint, Report}
use Rattle.typst_node.specs.Entries.{error_entries, told, warning_entries}
use Rattle.typst_session.specs.declared.diagnostics.Severity.{Severity}
use Rattle.typst_session.specs.declared.diagnostics.Severity.TheVariants.{Error, Warning, Hint}

-- an error, a warning or a hint, with the place that it is about and its text
pub record Remark : Type 0 where
  pub severity : Severity
  pub place : DiagPlace
  pub text : List ℕ

-- the remark of a hint
abbrev pub hint_remark : PlacedHint → Remark
hint_remark hint = record { severity = Hint; place = hint.place; text = hint.text }

-- the severity of a report: error or warning
abbrev pub severity_of : Bool → Severity
severity_of true = Error
severity_of false = Warning

-- the remark of a report, and the remarks of its hints after it
abbrev pub remarks_of : Report → List Remark
remarks_of report =
    record { severity = severity_of report.is_error; place = report.place; text = report.message } ∷ map hint_remark report.hints

-- the remarks of reports, one after the other
abbrev pub all_remarks : List Report → List Remark
all_remarks reports = flat_map remarks_of reports

-- the remarks of a tree: those of its errors in preorder, and then those of its warnings in preorder
abbrev pub remarks : Tree → List Remark
remarks t = all_remarks (map (told t) (error_entries t)) ++ all_remarks (map (told t) (warning_entries t))

-- the texts of remarks, one after the other
abbrev pub texts_of : List Remark → List ℕ
texts_of remarks = flat_map (λ (r : Remark). r.text) remarks
