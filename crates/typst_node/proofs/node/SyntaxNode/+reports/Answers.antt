use Rattle.std.proofs.Common.{◌≡◌, ◌++◌, false, map, ap, sym, ◌∙◌}
use Rattle.std.proofs.lemmas.List.{append-nil}
use Rattle.typst_node.specs.Preorder.{nodes}
use Rattle.typst_node.specs.Diagnosis.{is_error, is_warned, has_error, has_warning}
use Rattle.typst_node.specs.Diagnostics.{errors_at, warnings_at}
use Rattle.typst_node.specs.Reported.{report}
use Rattle.typst_node.proofs.DiagnosticLemmas.{neither, none_listed, errors_told, warnings_told}
use Rattle.typst_node.proofs.node.SyntaxNode.+reports.Goals as goal

pub push_reports-returns-then-not-either-clause-errors : goal.push_reports-returns-then-not-either-clause-errors
push_reports-returns-then-not-either-clause-errors t c =
    let both = neither c.diagnosis.result.errors c.diagnosis.result.warnings (sym c.either.ensures ∙ c.if-not-either.true) in
    let none : has_error c.args.self.now ≡ false = sym c.diagnosis.ensures.errors ∙ both.0 in
    sym (append-nil (map report c.args.errors.now.items)) ∙ ap (λ rs. map report c.args.errors.now.items ++ rs) (sym (none_listed is_error errors_at errors_told (nodes c.args.self.now) none))

pub push_reports-returns-then-not-either-clause-warnings : goal.push_reports-returns-then-not-either-clause-warnings
push_reports-returns-then-not-either-clause-warnings t c =
    let both = neither c.diagnosis.result.errors c.diagnosis.result.warnings (sym c.either.ensures ∙ c.if-not-either.true) in
    let none : has_warning c.args.self.now ≡ false = sym c.diagnosis.ensures.warnings ∙ both.1 in
    sym (append-nil (map report c.args.warnings.now.items)) ∙ ap (λ rs. map report c.args.warnings.now.items ++ rs) (sym (none_listed is_warned warnings_at warnings_told (nodes c.args.self.now) none))
