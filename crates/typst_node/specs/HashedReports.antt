-- The input to the hash of a diagnostic: its report.
use Rattle.std.specs.Prelude.{◌≡◌, ◌++◌, string_bytes, true}
use Rattle.std.proofs.Common.{ap, sym, ◌∙◌}
use Rattle.std.specs.Cmp.Derive.Mapped.{items_map}
use Rattle.std.specs.Hash as fed
use Rattle.std.specs.Hash.{HashWrites}
use Rattle.typst_base.specs.Hashed.{place_input}
use Rattle.typst_node.specs.Diagnostics.{PlacedHint, Report}
use Rattle.typst_node.specs.EqualReports.{diagnostic_eq, diagnostic_same}
use Rattle.typst_node.specs.Reported.{placed_hint, report}
use Rattle.typst_node.specs.contracts.node.diagnostics.SyntaxDiagnosticHash.TheImpl.{ghosts}
use Rattle.typst_node.specs.declared.node.diagnostics.SyntaxDiagnostic.{SyntaxDiagnostic}

abbrev hint_input : PlacedHint → HashWrites
hint_input h = fed.str h.text ++ place_input h.place

abbrev report_input : Report → HashWrites
report_input r = fed.bool r.is_error ++ (place_input r.place ++ (fed.str r.message ++ fed.slice hint_input r.hints))

-- the input to the hash of a diagnostic is its report
input_is : (d : SyntaxDiagnostic) → ghosts.hash_input d ≡ report_input (report d)
input_is d =
    ap (λ hs. fed.bool d.is_error ++ (place_input d.span ++ (fed.str (string_bytes d.message) ++ hs))) (sym (items_map placed_hint hint_input d.hints.items))

-- equal diagnostics give the hash the same input
pub reports_alike : (d e : SyntaxDiagnostic) → diagnostic_eq d e ≡ true → ghosts.hash_input d ≡ ghosts.hash_input e
reports_alike d e h = input_is d ∙ (ap report_input ((diagnostic_same d e).0 h) ∙ sym (input_is e))
