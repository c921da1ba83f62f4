-- Runs of a machine over a text, and the longest beginning of the text that the machine accepts.
use Rattle.std.specs.Prelude.{ℕ, ◌+◌, ◌-◌, slice_index, suc, Bool, List, [], ◌∷◌, take, Option, Some, None, if◌then◌else◌}
use Rattle.typst_lexer.specs.declared.place.Place.{Place}
use Rattle.typst_lexer.specs.declared.place.Reading.{Reading}
use Rattle.typst_lexer.specs.Bytes.{behind_byte}
use Rattle.typst_lexer.specs.declared.head.Run.{Run}

-- a run that ends where it begins
abbrev pub stopped : Reading → Run
stopped s = record { passed = 0; len = 0; last = s }

-- A run with one more byte at its front, before which the machine is in the state s. Where it accepts no longer
-- beginning, the accepted one ends before that byte.
abbrev pub longer : (Reading → Bool) → Reading → Run → Run
longer accepts s r = record {
  passed = suc r.passed;
  len = if accepts r.last then suc r.len else 0;
  last = if accepts r.last then r.last else s;
}

-- The run from a state on. At each byte the machine sees the next `ahead` bytes, or all that are left, and goes over one
-- byte into another state, or stops.
abbrev pub run : (Reading → List ℕ → Option Reading) → (Reading → Bool) → ℕ → Reading → List ℕ → Run
run move accepts ahead s [] = stopped s
run move accepts ahead s (b ∷ bs) = elim (move s (take ahead (b ∷ bs))) [
  | None ↦ stopped s
  | Some t ↦ longer accepts s (run move accepts ahead t bs)
]

-- The run over a whole text. It accepts at least the first byte.
abbrev pub begun : (Reading → List ℕ → Option Reading) → (Reading → Bool) → ℕ → (List ℕ → Reading) → List ℕ → Run
begun move accepts ahead begin [] = stopped (begin [])
begun move accepts ahead begin (b ∷ bs) =
    let r = run move accepts ahead (begin (take ahead (b ∷ bs))) bs in
    record { passed = suc r.passed; len = suc r.len; last = r.last }

-- A run with one more byte at its end, after which the machine is in the state t.
abbrev pub grown : (Reading → Bool) → Run → Reading → Run
grown accepts r t =
    if accepts t then record { passed = r.passed + 1; len = r.passed + 1; last = t }
    else record { passed = r.passed + 1; len = r.len; last = r.last }

-- A run over so many bytes. Before the last one it was inside of this, and is so after it.
abbrev pub leapt : ℕ → Place → List ℕ → Run
leapt passed inside bytes = record {
  passed = passed;
  len = passed;
  last = record { place = inside; behind = behind_byte (slice_index bytes (passed - 1)) };
}
