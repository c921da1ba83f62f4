use Rattle.std.proofs.Common.{◌≡◌, ◌≤◌, drop}
use Rattle.typst_atoms.specs.HexValues.{capped_value}
use Rattle.typst_atoms.proofs.hex.capped_value_of.Given as goal

abbrev pub invariant-loop-c : goal.invariant-loop-c
invariant-loop-c l = record {
  value : capped_value l.code (drop l.c-index l.chars) ≡ capped_value 0 l.chars;
  within : l.code ≤ 0x11_0000;
}
