use Rattle.std.proofs.Common.{◌≡◌, rules, sym, ◌∙◌}
use Rattle.typst_node.specs.EqualReports.{diagnostic_eq, diagnostic_same}
use Rattle.typst_node.proofs.node.diagnostics.SyntaxDiagnosticPartialEq.eq.Goals as goal

pub returns-then-eq-2-clause-same : goal.returns-then-eq-2-clause-same
returns-then-eq-2-clause-same c =
    let is : c.eq-then-eq-2.result ≡ diagnostic_eq c.args.self.now c.args.other.now = search rules in
    let law = diagnostic_same c.args.self.now c.args.other.now in
    (λ t. law.0 (sym is ∙ t), λ e. is ∙ law.1 e)
