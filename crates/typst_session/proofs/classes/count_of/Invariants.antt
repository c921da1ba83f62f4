use Rattle.std.proofs.Common.{◌≡◌, take}
use Rattle.std.specs.List.{count_by}
use Rattle.typst_session.specs.Classes.{is_of}
use Rattle.typst_session.proofs.classes.count_of.Given as goal

abbrev pub invariant-loop-at : goal.invariant-loop-at
invariant-loop-at l = l.count ≡ count_by (is_of l.class) (take l.at l.nodes)
