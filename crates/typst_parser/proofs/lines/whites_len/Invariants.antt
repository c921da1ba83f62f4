use Rattle.std.proofs.Common.{◌≡◌, ◌+◌, ◌-◌, ◌≤◌, drop, length}
use Rattle.typst_parser.specs.Lines.{whites_len}
use Rattle.typst_parser.proofs.lines.whites_len.Given as goal

abbrev pub invariant-loop : goal.invariant-loop
invariant-loop l = record {
  within : l.at ≤ length l.bytes;
  so_far : l.at + whites_len (l.most - l.counter) (drop l.at l.bytes) ≡ whites_len l.most l.bytes;
}
