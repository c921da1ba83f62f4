use Rattle.std.proofs.Common.{◌≡◌, take}
use Rattle.typst_shown.specs.Report.{differing}
use Rattle.typst_shown.proofs.report.count_differing.Given as goal

abbrev pub invariant-loop-i : goal.invariant-loop-i
invariant-loop-i l = l.sum ≡ differing (take l.i l.before) (take l.i l.after)
