use Rattle.std.proofs.Common.{◌≡◌, ◌≤◌, drop}
use Rattle.typst_lexer.specs.HexValues.{capped_value}
use Rattle.typst_lexer.proofs.escapes.capped_value.Given as goal

abbrev pub invariant-loop-byte : goal.invariant-loop-byte
invariant-loop-byte l = record {
  value : capped_value l.code (drop l.byte-index l.bytes) ≡ capped_value 0 l.bytes;
  within : l.code ≤ 0x11_0000;
}
