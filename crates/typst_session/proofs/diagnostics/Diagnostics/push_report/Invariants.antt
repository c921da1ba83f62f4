use Rattle.std.proofs.Common.{◌≡◌, ◌++◌, map, drop}
use Rattle.std.specs.Prelude.{string_bytes}
use Rattle.typst_node.specs.Reported.{placed_hint, report}
use Rattle.typst_session.specs.Diagnostics.{diagnostic_of}
use Rattle.typst_session.specs.Remarks.{hint_remark, remarks_of, texts_of}
use Rattle.typst_session.proofs.diagnostics.Diagnostics.push_report.Given as goal

abbrev pub invariant-loop-hint : goal.invariant-loop-hint
invariant-loop-hint l =
    (l.self.list.items ++ map (diagnostic_of l.root) (map hint_remark (map placed_hint (drop l.hint-index l.hint-items)))
    ≡ l.fn.self.list.items ++ map (diagnostic_of l.root) (remarks_of (report l.found)))
    × (string_bytes l.self.texts ++ texts_of (map hint_remark (map placed_hint (drop l.hint-index l.hint-items)))
    ≡ string_bytes l.fn.self.texts ++ texts_of (remarks_of (report l.found)))
