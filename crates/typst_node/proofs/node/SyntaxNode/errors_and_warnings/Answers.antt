use Rattle.std.proofs.Common.{◌++◌, map, ap, ◌∙◌}
use Rattle.typst_node.specs.Preorder.{nodes}
use Rattle.typst_node.specs.Diagnosis.{is_error, is_warned, has_error, has_warning}
use Rattle.typst_node.specs.Diagnostics.{errors_at, warnings_at, errors_of, warnings_of}
use Rattle.typst_node.specs.Reported.{report}
use Rattle.typst_node.proofs.DiagnosticLemmas.{none_listed, some_listed, errors_told, warnings_told, has_entry}
use Rattle.typst_node.proofs.EntryLemmas.{errors_told_of, warnings_told_of}
use Rattle.typst_node.proofs.node.SyntaxNode.errors_and_warnings.Goals as goal

pub returns-clause-error_diagnosed : goal.returns-clause-error_diagnosed
returns-clause-error_diagnosed c =
    let t = c.args.self.now in
    has_entry report c.push_reports.new.errors.items (errors_of t) (has_error t) (c.in_ok-push_reports.ensures.errors ∙ ap (λ items. map report items ++ errors_of t) c.new-errors.ensures.items)
    (none_listed is_error errors_at errors_told (nodes t)) (some_listed is_error errors_at errors_told (nodes t))

pub returns-clause-warning_diagnosed : goal.returns-clause-warning_diagnosed
returns-clause-warning_diagnosed c =
    let t = c.args.self.now in
    has_entry report c.push_reports.new.warnings.items (warnings_of t) (has_warning t) (c.in_ok-push_reports.ensures.warnings ∙ ap (λ items. map report items ++ warnings_of t) c.new-warnings.ensures.items)
    (none_listed is_warned warnings_at warnings_told (nodes t)) (some_listed is_warned warnings_at warnings_told (nodes t))

pub returns-clause-errors : goal.returns-clause-errors
returns-clause-errors c =
    let t = c.args.self.now in
    c.in_ok-push_reports.ensures.errors ∙ ap (λ items. map report items ++ errors_of t) c.new-errors.ensures.items ∙ errors_told_of t

pub returns-clause-warnings : goal.returns-clause-warnings
returns-clause-warnings c =
    let t = c.args.self.now in
    c.in_ok-push_reports.ensures.warnings ∙ ap (λ items. map report items ++ warnings_of t) c.new-warnings.ensures.items ∙ warnings_told_of t
