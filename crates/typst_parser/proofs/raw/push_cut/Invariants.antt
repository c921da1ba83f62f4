use Rattle.std.proofs.Common.{◌≡◌, ◌++◌, drop, map}
use Rattle.typst_parser.specs.LineViews.{line_of, piece_of}
use Rattle.typst_parser.specs.Raw.{cut_pieces}
use Rattle.typst_parser.proofs.raw.push_cut.Given as goal

abbrev pub invariant-loop-line : goal.invariant-loop-line
invariant-loop-line l = map piece_of l.pieces.items ++ cut_pieces l.cut (map line_of (drop l.line-index l.lines)) ≡ map piece_of l.fn.pieces.items ++ cut_pieces l.cut (map line_of l.lines)
