-- Which bytes an edit names.
use Rattle.std.specs.Prelude.{ℕ, ◌≡◌, ◌-◌, List}
use Rattle.std.specs.declared.ops.Range.{Range}
use Rattle.typst_lines.specs.Columns.{IsPlace}
use Rattle.typst_lines.specs.declared.column.ColumnUnit.TheVariants.{Character}
use Rattle.typst_lines.specs.declared.ends.LineEnds.{LineEnds}
use Rattle.typst_shown.specs.declared.edit_line.EditLine.{EditLine}
use Rattle.typst_shown.specs.declared.edit_line.Place.{Place}
use Rattle.typst_shown.specs.declared.edit_line.Place.TheVariants.{Byte, LineColumn}

-- the byte of a place: the one with its number, or the one with its line and column, which are counted from 1
abbrev pub IsByteOf : LineEnds → List ℕ → Place → ℕ → Type 0
IsByteOf ends text (Byte byte) at = at ≡ byte
IsByteOf ends text (LineColumn line column) at = IsPlace ends Character text (line - 1) (column - 1) at

-- an edit names the bytes from its start to its end
abbrev pub IsRangeOf : LineEnds → List ℕ → EditLine → Range ℕ → Type 0
IsRangeOf ends text edit range = IsByteOf ends text edit.start range.start × IsByteOf ends text edit.end range.end
