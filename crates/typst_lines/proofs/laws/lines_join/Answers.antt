use Rattle.std.proofs.Common.{refl}
use Rattle.typst_lines.specs.LineStarts.{line_starts}
use Rattle.typst_lines.proofs.LinesOf.{lines-some, lines-joined, lines-in_row, count_lines, start_is}
use Rattle.typst_lines.proofs.OnlyLines.{lines-only}
use Rattle.typst_lines.proofs.laws.lines_join.Goals as goal

pub returns-clause-some : goal.returns-clause-some
returns-clause-some c = lines-some

pub returns-clause-joined : goal.returns-clause-joined
returns-clause-joined c = lines-joined

pub returns-clause-in_row : goal.returns-clause-in_row
returns-clause-in_row c = lines-in_row

pub returns-clause-only : goal.returns-clause-only
returns-clause-only c = lines-only

pub returns-clause-many : goal.returns-clause-many
returns-clause-many c = λ ends text. count_lines ends (line_starts ends text) text refl

pub returns-clause-starts : goal.returns-clause-starts
returns-clause-starts c = start_is
