use Rattle.std.proofs.Common.{◌≡◌, ◌+◌, ◌++◌, ◌<◌, ◌^◌, length, map, suc}
use Rattle.typst_parser.specs.LineViews.{line_of}
use Rattle.typst_parser.specs.Lines.{lines, lines_from}
use Rattle.typst_parser.proofs.lines.lines.Given as goal

abbrev pub invariant-loop-all : goal.invariant-loop-all
invariant-loop-all l = record {
  fits : l.from + length l.rest < 2 ^ 64;
  so_far : map line_of l.all.items ++ lines_from (suc (length l.rest)) l.from l.rest ≡ lines l.fn.from l.fn.text;
}

abbrev pub decreases-loop-all : goal.decreases-loop-all
decreases-loop-all l = length l.rest
