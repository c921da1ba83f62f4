use Rattle.std.proofs.Common.{◌≡◌, ◌++◌, map, drop}
use Rattle.typst_node.specs.Reported.{report}
use Rattle.typst_node.proofs.DiagnosticLemmas.{errors_of_all, warnings_of_all}
use Rattle.typst_node.proofs.node.SyntaxNode.+reports.Given as goal

abbrev pub invariant-push_some_reports-loop-child : goal.invariant-push_some_reports-loop-child
invariant-push_some_reports-loop-child l = record {
  errors : map report l.errors.items ++ errors_of_all (drop l.child-index l.child-items) ≡ map report l.initial.errors.items ++ errors_of_all l.child-items;
  warnings : map report l.warnings.items ++ warnings_of_all (drop l.child-index l.child-items) ≡ map report l.initial.warnings.items ++ warnings_of_all l.child-items;
}
