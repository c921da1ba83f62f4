use Rattle.std.proofs.Common.{◌≡◌, ◌+◌, ◌-◌, length}
use Rattle.typst_parser.specs.Lines.{indent, indent_of}
use Rattle.typst_parser.proofs.lines.indent.Given as goal

abbrev pub invariant-loop-n : goal.invariant-loop-n
invariant-loop-n l = l.n + indent_of (length l.bytes - l.n) l.rest ≡ indent l.bytes
