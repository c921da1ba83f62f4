-- What holds of the first token of any text, in each mode.
use Rattle.std.proofs.Common.{◌≡◌, ℕ, ◌+◌, ◌<◌, ◌≤◌, List, length, take, ap, ◌∙◌, arith}
use Rattle.std.specs.Str.{IsCharBoundary}
use Rattle.typst_lexer.specs.declared.mode.Mode.{Mode}
use Rattle.typst_lexer.specs.declared.place.Behind.{Behind}
use Rattle.typst_lexer.specs.declared.head.FirstToken.{FirstToken}
use Rattle.typst_lexer.specs.declared.head.Run.{Run}
use Rattle.typst_lexer.specs.Machine.{accepts, begin, kind_of, stay}
use Rattle.typst_lexer.specs.FirstToken.{run_of, first}
use Rattle.typst_lexer.proofs.MachineLaws.{begin_accepts, machine_sees, stay_keeps, stay_stops}
use Rattle.typst_lexer.proofs.Runs.{begun_local, begun_len, begun_passed, begun_some, begun_boundary, take_less}

pub first_within : (mode : Mode) (k : Behind) (text : List ℕ) → 0 < length text → (0 < (first mode k text).len) × ((first mode k text).len ≤ length text)
first_within mode k text some =
    let len : (run_of mode k text).len ≤ (run_of mode k text).passed = begun_len stay accepts 10 (begin mode k) text in
    let passed : (run_of mode k text).passed ≤ length text = begun_passed stay accepts 10 (begin mode k) text in
    (begun_some stay accepts 10 (begin mode k) text some, omega arith)

pub run_within : (mode : Mode) (k : Behind) (text : List ℕ) → (run_of mode k text).len ≤ length text
run_within mode k text =
    let len : (run_of mode k text).len ≤ (run_of mode k text).passed = begun_len stay accepts 10 (begin mode k) text in
    let passed : (run_of mode k text).passed ≤ length text = begun_passed stay accepts 10 (begin mode k) text in
    omega arith

pub first_looked : (mode : Mode) (k : Behind) (text : List ℕ) → (first mode k text).len ≤ (first mode k text).look
first_looked mode k text = omega (arith, begun_len stay accepts 10 (begin mode k) text)

pub first_looks : (mode : Mode) (k : Behind) (text : List ℕ) → (first mode k text).look ≤ length text + 10
first_looks mode k text =
    let passed : (run_of mode k text).passed ≤ length text = begun_passed stay accepts 10 (begin mode k) text in
    omega arith

pub first_boundary : (mode : Mode) (k : Behind) (text : List ℕ) → IsCharBoundary text (first mode k text).len
first_boundary mode k text = begun_boundary stay accepts stay_stops stay_keeps 10 (begin mode k) machine_sees (begin_accepts mode k) text

abbrev token_of : List ℕ → Run → FirstToken
token_of text r = record { kind = kind_of r.last.place (take r.len text); len = r.len; look = r.passed + 10; behind = r.last.behind }

abbrev token_with : List ℕ → Run → FirstToken
token_with bytes r = record { kind = kind_of r.last.place bytes; len = r.len; look = r.passed + 10; behind = r.last.behind }

pub first_local : (mode : Mode) (k : Behind) (text other : List ℕ) → take (first mode k text).look text ≡ take (first mode k text).look other
    → first mode k text ≡ first mode k other
first_local mode k text other e =
    let cut : take (run_of mode k text).len text ≡ take (run_of mode k text).len other =
    take_less (run_of mode k text).len (first mode k text).look text other (first_looked mode k text) e in
    ap (λ (bytes : List ℕ). token_with bytes (run_of mode k text)) cut
    ∙ ap (token_of other) (begun_local stay accepts 10 (begin mode k) text other machine_sees e)
