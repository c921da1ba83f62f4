-- How contracts see the code's lines and pieces.
use Rattle.typst_parser.specs.Lines.{Line}
use Rattle.typst_parser.specs.Raw.{Piece}
use Rattle.typst_parser.specs.declared.lines.Line.{Line as CodeLine}
use Rattle.typst_parser.specs.declared.raw.Piece.{Piece as CodePiece}

-- how contracts see a line of raw text
abbrev pub line_of : CodeLine → Line
line_of l = record { from = l.from; to = l.to; text = l.text.now }

-- how contracts see a piece of raw text
abbrev pub piece_of : CodePiece → Piece
piece_of p = record { from = p.from; to = p.to }
