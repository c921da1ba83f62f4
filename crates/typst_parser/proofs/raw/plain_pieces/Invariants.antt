use Rattle.std.proofs.Common.{◌≡◌, ◌++◌, drop, map}
use Rattle.typst_parser.specs.LineViews.{line_of, piece_of}
use Rattle.typst_parser.specs.Raw.{plain_pieces}
use Rattle.typst_parser.proofs.raw.plain_pieces.Given as goal

abbrev pub invariant-loop-line : goal.invariant-loop-line
invariant-loop-line l = map piece_of l.pieces.items ++ plain_pieces (map line_of (drop l.line-index l.lines)) ≡ plain_pieces (map line_of l.lines)
