use Rattle.std.proofs.Common.{◌≡◌, ◌≤◌, drop}
use Rattle.std.specs.Prelude.{◌^◌}
use Rattle.typst_lexer.specs.CappedDigits.{capped_digits}
use Rattle.typst_lexer.proofs.numbers.capped_digits.Given as goal

abbrev pub invariant-loop-byte : goal.invariant-loop-byte
invariant-loop-byte l = record {
  value : capped_digits l.fn.base l.value (drop l.byte-index l.text) ≡ capped_digits l.fn.base 0 l.text;
  within : l.value ≤ 2 ^ 63;
}
