use Rattle.std.proofs.Common.{◌≡◌, drop, map}
use Rattle.typst_parser.specs.LineViews.{line_of}
use Rattle.typst_parser.specs.Raw.{least_indent}
use Rattle.typst_parser.proofs.raw.least_indent.Given as goal

abbrev pub invariant-loop-line : goal.invariant-loop-line
invariant-loop-line l = least_indent l.least (map line_of (drop l.line-index l.lines)) ≡ least_indent l.fn.most (map line_of l.lines)
