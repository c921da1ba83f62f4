use Rattle.std.proofs.Common.{◌≡◌, ◌++◌, drop, string_bytes}
use Rattle.typst_atoms.proofs.strings.push_all.Given as goal
use lib.Utf8.{encodes}

abbrev pub invariant-loop-c : goal.invariant-loop-c
invariant-loop-c l = string_bytes l.text ++ encodes (drop l.c-index l.chars) ≡ string_bytes l.initial.text ++ encodes l.chars
