-- The first token of a text: the longest beginning that the machine accepts.
use Rattle.std.specs.Prelude.{ℕ, ◌+◌, List, take}
use Rattle.typst_lexer.specs.declared.mode.Mode.{Mode}
use Rattle.typst_lexer.specs.declared.place.Behind.{Behind}
use Rattle.typst_lexer.specs.declared.head.FirstToken.{FirstToken}
use Rattle.typst_lexer.specs.declared.head.Run.{Run}
use Rattle.typst_lexer.specs.Machine.{accepts, begin, kind_of, stay}
use Rattle.typst_lexer.specs.Runs.{begun}

-- The run of the machine over the text. It sees ten bytes at once.
abbrev pub run_of : Mode → Behind → List ℕ → Run
run_of mode before text = begun stay accepts 10 (begin mode before) text

-- the first token of a text, given what is before the text
abbrev pub first : Mode → Behind → List ℕ → FirstToken
first mode before text =
    let r = run_of mode before text in
    record { kind = kind_of r.last.place (take r.len text); len = r.len; look = r.passed + 10; behind = r.last.behind }
