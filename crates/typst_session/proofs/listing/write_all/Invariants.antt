use Rattle.std.proofs.Common.{◌≡◌, take, drop, length}
use Rattle.std.specs.List.{AllZip}
use Rattle.typst_session.specs.Reading.{IsInfo}
use Rattle.typst_session.proofs.listing.write_all.Given as goal

abbrev pub invariant-loop-at : goal.invariant-loop-at
invariant-loop-at l = AllZip IsInfo (take l.at l.nodes) (take l.at l.out) × (drop (length l.nodes) l.out ≡ drop (length l.nodes) l.fn.out)
