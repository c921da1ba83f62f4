use Rattle.std.proofs.Common.{◌≡◌, ◌++◌, map, drop}
use Rattle.std.specs.Prelude.{string_bytes}
use Rattle.typst_node.specs.Reported.{report}
use Rattle.typst_session.specs.Diagnostics.{diagnostic_of}
use Rattle.typst_session.specs.Remarks.{all_remarks, texts_of}
use Rattle.typst_session.proofs.diagnostics.Diagnostics.push_reports.Given as goal

abbrev pub invariant-loop-found : goal.invariant-loop-found
invariant-loop-found l =
    (l.self.list.items ++ map (diagnostic_of l.root) (all_remarks (map report (drop l.found-index l.reports)))
    ≡ l.fn.self.list.items ++ map (diagnostic_of l.root) (all_remarks (map report l.reports)))
    × (string_bytes l.self.texts ++ texts_of (all_remarks (map report (drop l.found-index l.reports)))
    ≡ string_bytes l.fn.self.texts ++ texts_of (all_remarks (map report l.reports)))
