-- The content of a diagnostic.
use Rattle.std.specs.Prelude.{map, string_bytes, String}
use Rattle.std.specs.declared.alloc.Global.{Global}
use Rattle.typst_base.specs.DiagSpan.{DiagPlace}
use Rattle.typst_base.specs.declared.spanned.Spanned.{Spanned}
use Rattle.typst_node.specs.Diagnostics.{PlacedHint, Report}
use Rattle.typst_node.specs.declared.node.diagnostics.SyntaxDiagnostic.{SyntaxDiagnostic}

-- the hint of a report, for a hint of a diagnostic
abbrev pub placed_hint : Spanned (String Global) DiagPlace → PlacedHint
placed_hint h = record { text = string_bytes h.v; place = h.span }

-- the report of a diagnostic
abbrev pub report : SyntaxDiagnostic → Report
report d = record {
  is_error = d.is_error;
  place = d.span;
  message = string_bytes d.message;
  hints = map placed_hint d.hints.items;
}
