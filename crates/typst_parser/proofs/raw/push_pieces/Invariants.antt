use Rattle.std.proofs.Common.{◌≡◌, ◌++◌, drop, map}
use Rattle.typst_parser.specs.LineViews.{piece_of}
use Rattle.typst_parser.specs.Raw.{pieces_from}
use Rattle.typst_parser.proofs.raw.push_pieces.Given as goal

abbrev pub invariant-loop-piece : goal.invariant-loop-piece
invariant-loop-piece l = l.events.items ++ pieces_from l.place (map piece_of (drop l.piece-index l.pieces)) l.to ≡ l.fn.events.items ++ pieces_from l.fn.from (map piece_of l.pieces) l.to
